-- The exact size of a number as a decimal.
use Rattle.std.specs.Prelude.{◌≡◌, ℕ, ◌*◌, ◌^◌, ◌<◌, ◌≤◌}
use Rattle.ioc_double.specs.declared.exact.Exact.{Exact}
use Rattle.ioc_double.specs.Leading.{IsLeading}

-- The fraction a / b is a whole number over a power of ten, and one that isn't 0 has 28 digits at least.
pub record IsExact (x : Exact) (a b : ℕ) : Type 0 where
  pub whole : ℕ
  pub same : a * 10 ^ x.places ≡ whole * b
  pub leading : IsLeading x.leading whole
  pub long : 0 < a → 10 ^ 27 ≤ whole
  pub places : (27 ≤ x.places) × (x.places ≤ 1101)
  pub dropped : x.leading.dropped ≤ 810
