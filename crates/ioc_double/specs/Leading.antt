-- The leading digits of a number.
use Rattle.std.specs.Prelude.{◌≡◌, ℕ, ◌+◌, ◌*◌, ◌^◌, ◌<◌, ◌≤◌, nat_lt}
use Rattle.ioc_double.specs.declared.groups.Leading.{Leading}

-- The number is the leading digits and a rest. A number of at least 28 digits has at least 28 leading digits.
pub record IsLeading (l : Leading) (n : ℕ) : Type 0 where
  pub rest : ℕ
  pub is : n ≡ l.head * 10 ^ l.dropped + rest
  pub below : rest < 10 ^ l.dropped
  pub more : l.more ≡ nat_lt 0 rest
  pub long : 10 ^ 27 ≤ n → 10 ^ 27 ≤ l.head
  pub short : l.head < 10 ^ 36
