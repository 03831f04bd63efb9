use Rattle.rec_state.specs.Input.{new_input}
use Rattle.rec_state.specs.InputLaws.{input_new}
use Rattle.rec_state.proofs.input.StateInputFresh.fresh.Goals as goal

pub returns-clause-defaults : goal.returns-clause-defaults
unfolding new_input
returns-clause-defaults g c = rw (c.new.ensures, c.new-2.ensures) (input_new g.S.States.rules g.met.S.States.lawful)
