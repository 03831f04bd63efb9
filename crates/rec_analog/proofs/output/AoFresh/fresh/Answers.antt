use Rattle.rec_analog.specs.Output.{new_ao}
use Rattle.rec_analog.specs.OutputLaws.{ao_new}
use Rattle.rec_analog.proofs.output.AoFresh.fresh.Goals as goal

pub returns-clause-defaults : goal.returns-clause-defaults
unfolding new_ao
returns-clause-defaults c = rw (c.new.ensures, c.new-2.ensures, c.new-3.ensures, c.from-zero.ensures) ao_new
