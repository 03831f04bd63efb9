use Rattle.ioc_record.specs.SameLinks.{same_input}
use Rattle.rec_text.proofs.text_body.TextBodyRecordBody.copy_from.Goals as goal

pub copy_from-requires : goal.copy_from-requires
copy_from-requires g c = same_input _ _ c.requires.same_links
