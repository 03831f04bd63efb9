use Rattle.std.proofs.Common.{refl}
use Rattle.ioc_monitor.proofs.Wide.{wide-value, wide-difference}
use Rattle.ioc_monitor.proofs.deadband.is_below.Goals as goal

pub returns : goal.returns
returns c =
    rw (wide-value c.args.last c.ranges.last, wide-value c.args.band c.ranges.band, wide-value c.args.now c.ranges.now, wide-difference c.args.last c.args.band c.ranges.last c.ranges.band) refl
