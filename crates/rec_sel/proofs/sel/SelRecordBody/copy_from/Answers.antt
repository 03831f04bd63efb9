use Rattle.std.proofs.Common.{rules}
use Rattle.rec_sel.specs.SelLaws.{same_nvl, same_sel_links}
use Rattle.rec_sel.proofs.sel.SelRecordBody.copy_from.Goals as goal

pub copy_from-requires : goal.copy_from-requires
copy_from-requires c = same_sel_links _ _ _ _ c.requires.same_links

pub returns : goal.returns
returns c = rw (same_nvl _ _ _ _ c.requires.same_links, c.copy_from.ensures) (search rules)
