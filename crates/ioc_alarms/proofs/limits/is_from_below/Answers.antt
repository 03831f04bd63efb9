use Rattle.std.proofs.Common.{refl}
use Rattle.ioc_alarms.proofs.Wide.{wide-value, wide-difference}
use Rattle.ioc_alarms.proofs.limits.is_from_below.Goals as goal

pub returns : goal.returns
returns c =
    rw (wide-value c.args.limit c.ranges.limit, wide-value c.args.hysteresis c.ranges.hysteresis, wide-value c.args.value c.ranges.value, wide-difference c.args.limit c.args.hysteresis c.ranges.limit c.ranges.hysteresis) refl
