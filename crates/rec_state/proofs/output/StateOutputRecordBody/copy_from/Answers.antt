use Rattle.ioc_record.specs.SameLinks.{same_output, same_desired}
use Rattle.rec_state.proofs.output.StateOutputRecordBody.copy_from.Goals as goal

pub copy_from-requires-clause-output : goal.copy_from-requires-clause-output
copy_from-requires-clause-output g c = same_output _ _ _ _ c.requires.same_links

pub copy_from-requires-clause-desired : goal.copy_from-requires-clause-desired
copy_from-requires-clause-desired g c = same_desired _ _ _ _ c.requires.same_links
