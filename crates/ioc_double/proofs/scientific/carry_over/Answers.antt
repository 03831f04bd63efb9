use Rattle.std.proofs.Common.{◌≡◌, ℕ, ◌*◌, ◌^◌, ◌<◌, ◌≤◌, arith, lit<}
use Rattle.std.proofs.Math.Nat.{pow-le-pow_right}
use Rattle.ioc_double.proofs.scientific.carry_over.Goals as goal

small : (t d e : ℕ) → t ≡ 10 ^ e → e ≡ d → d ≤ 15 → 10 * t < 2 ^ 64
small t d e h i k = let p : 10 ^ d ≤ 10 ^ 15 = pow-le-pow_right (lit< tt) k in rw (h, i) (omega arith)

pub overflow_mul-tens : goal.overflow_mul-tens
overflow_mul-tens c = record { fits = small c.pow-tens.result c.args.digits _ c.pow-tens.ensures c.from.ensures c.requires.digits }
