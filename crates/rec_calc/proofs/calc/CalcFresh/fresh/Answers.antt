use Rattle.rec_calc.specs.Calc.{new_calc}
use Rattle.rec_calc.specs.CalcLaws.{calc_new}
use Rattle.rec_calc.proofs.calc.CalcFresh.fresh.Goals as goal

pub returns-clause-defaults : goal.returns-clause-defaults
unfolding new_calc
returns-clause-defaults c = rw (c.new.ensures, c.new-2.ensures, c.from.ensures, c.unset.ensures) calc_new
