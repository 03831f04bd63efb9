use Rattle.std.proofs.Common.{◌∙◌}
use Rattle.ioc_calc.proofs.WholeSizes.{doubled_turn}
use Rattle.ioc_calc.proofs.wholes.doubled.Goals as goal

pub loop-preserved : goal.loop-preserved
loop-preserved c = record {
  value = c.doubled_once-rest.ensures.value ∙ doubled_turn c.args.number c.loop.counter c.args.divisor c.loop.rest c.loop.invariant.value;
  below = c.doubled_once-rest.ensures.below;
}
