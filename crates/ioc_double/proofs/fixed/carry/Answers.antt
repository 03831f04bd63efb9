use Rattle.std.proofs.Common.{lit<}
use Rattle.std.proofs.Math.Nat.{one-le-pow}
use Rattle.ioc_double.proofs.fixed.carry.Goals as goal

pub returns-then-parts-pow-clause-fraction : goal.returns-then-parts-pow-clause-fraction
returns-then-parts-pow-clause-fraction c = one-le-pow c.args.digits 10 (lit< tt)
