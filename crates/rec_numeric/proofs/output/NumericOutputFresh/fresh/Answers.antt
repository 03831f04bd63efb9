use Rattle.rec_numeric.specs.Output.{new_output}
use Rattle.rec_numeric.specs.OutputLaws.{output_new}
use Rattle.rec_numeric.proofs.output.NumericOutputFresh.fresh.Goals as goal

pub returns-clause-defaults : goal.returns-clause-defaults
unfolding new_output
returns-clause-defaults g c = rw (c.new.ensures, c.new-2.ensures, c.zero.ensures, c.zero-2.ensures, c.zero-3.ensures) (output_new g.N.Number.number g.N.LimitNumber.order g.met.N.Number.lawful)
