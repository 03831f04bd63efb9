use Rattle.rec_calc.specs.Calcout.{new_calcout}
use Rattle.rec_calc.specs.CalcoutLaws.{calcout_new}
use Rattle.rec_calc.proofs.calcout.CalcoutFresh.fresh.Goals as goal

pub returns-clause-defaults : goal.returns-clause-defaults
unfolding new_calcout
returns-clause-defaults c = rw (c.fresh.ensures.value, c.empty.ensures, c.unset.ensures, c.from-zero.ensures) calcout_new
