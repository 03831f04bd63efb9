use Rattle.ioc_record.specs.SameLinks.{same_output, same_desired}
use Rattle.rec_analog.proofs.output.AoRecordBody.copy_from.Goals as goal

pub copy_from-requires-clause-output : goal.copy_from-requires-clause-output
copy_from-requires-clause-output c = same_output _ _ _ _ c.requires.same_links

pub copy_from-requires-clause-desired : goal.copy_from-requires-clause-desired
copy_from-requires-clause-desired c = same_desired _ _ _ _ c.requires.same_links
