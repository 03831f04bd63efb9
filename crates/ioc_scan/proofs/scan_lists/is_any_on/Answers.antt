use Rattle.std.proofs.Common.{arith}
use Rattle.ioc_scan.proofs.Agreement.{has_all}
use Rattle.ioc_scan.proofs.scan_lists.is_any_on.Goals as goal

pub returns : goal.returns
returns c = λ _ n p e on. c.loop-number.invariant n p e on (has_all c.args.entries.now c.loop-number.number c.args.list.now (omega (arith, c.loop-number-test.false)) n p e on)
