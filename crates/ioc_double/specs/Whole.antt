-- Doubles without their fraction.
use Rattle.std.specs.Prelude.{◌^◌, ◌*◌, ◌/◌, ℕ, ℤ, pos, negsuc, neg_ℤ, Bool, nat_lt, if◌then◌else◌, Option, Some, None}
use Rattle.std.specs.Float.Ieee.{Float, nan, inf, fin, up, down}

-- The number cut toward 0, where it is finite. The size of `fin s m e` is the fraction m * up e / down e.
unfoldable pub whole_of : Float → Option ℤ
whole_of nan = None
whole_of (inf s) = None
whole_of (fin s m e) = let size = pos (m * up e / down e) in Some (if s then neg_ℤ size else size)

-- Whether the number is from -limit to limit - 1.
abbrev pub is_within : ℕ → ℤ → Bool
is_within limit (pos n) = nat_lt n limit
is_within limit (negsuc n) = nat_lt n limit

-- The number, where it is from -2^63 to 2^63 - 1.
abbrev pub within_i64 : Option ℤ → Option ℤ
within_i64 None = None
within_i64 (Some z) = if is_within (2 ^ 63) z then Some z else None
