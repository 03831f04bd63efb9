use Rattle.std.proofs.Common.{rules}
use Rattle.rec_calc.specs.CalcoutLaws.{same_out, same_calc_links}
use Rattle.rec_calc.proofs.calcout.CalcoutRecordBody.copy_from.Goals as goal

pub match_to-requires : goal.match_to-requires
match_to-requires c = same_calc_links _ _ _ _ c.requires.same_links

pub returns : goal.returns
returns c = rw (same_out _ _ _ _ c.requires.same_links, c.match_to.ensures, c.copy-self.ensures) (search rules)
