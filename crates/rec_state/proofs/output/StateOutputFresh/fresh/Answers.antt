use Rattle.rec_state.specs.Output.{new_output}
use Rattle.rec_state.specs.OutputLaws.{output_new}
use Rattle.rec_state.proofs.output.StateOutputFresh.fresh.Goals as goal

pub returns-clause-defaults : goal.returns-clause-defaults
unfolding new_output
returns-clause-defaults g c = rw (c.new.ensures, c.new-2.ensures) (output_new g.S.States.rules g.met.S.States.lawful)
