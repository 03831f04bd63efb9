use Rattle.std.proofs.Common.{rules}
use Rattle.rec_calc.specs.Inputs.{constant_or}
use Rattle.rec_calc.proofs.Pairs.{one_more}
use Rattle.rec_calc.proofs.inputs.put_constants.Goals as goal

pub loop-i-preserved : goal.loop-i-preserved
loop-i-preserved c = (
  one_more constant_or c.loop-i.i c.args.links.now c.args.values.now c.loop-i.values c.index-links-i.result
      c.index-values-i.result c.constant_or.result c.loop-i.invariant.0 c.constant_or.ensures (search rules) (search rules),
  search rules,
)
