use Rattle.rec_numeric.specs.Input.{new_input}
use Rattle.rec_numeric.specs.InputLaws.{input_new}
use Rattle.rec_numeric.proofs.input.NumericInputFresh.fresh.Goals as goal

pub returns-clause-defaults : goal.returns-clause-defaults
unfolding new_input
returns-clause-defaults g c = rw (c.new.ensures, c.new-2.ensures) (input_new g.N.Number.number g.N.LimitNumber.order g.met.N.Number.lawful)
