use Rattle.std.proofs.Common.{rules}
use Rattle.rec_calc.specs.Inputs.{sent}
use Rattle.rec_calc.proofs.Pairs.{one_more}
use Rattle.rec_calc.proofs.inputs.send.Goals as goal

pub loop-i-preserved : goal.loop-i-preserved
loop-i-preserved c = (
  one_more (sent c.args.alarm_changed) c.loop-i.i c.args.values.now c.args.last.now c.loop-i.last c.index-values-i.result
      c.index-last-i.result c.sent.result c.loop-i.invariant.0 c.sent.ensures (search rules) (search rules),
  search rules,
)
