-- The decimals that are nearest to a fraction.
use Rattle.std.specs.Prelude.{◌≡◌, ◌⊎◌, ℕ, zero, suc, ◌+◌, ◌*◌, ◌%◌, ◌^◌, ◌<◌, ◌≤◌, ◌==◌, Bool, nat_lt, nat_le, ℤ, pos, negsuc, ◌+ℤ◌, if◌then◌else◌}
use Rattle.std.specs.Float.Ieee.Nearest.{closest}
use Rattle.ioc_double.specs.declared.scientific.Scientific.{Scientific}

-- q is the whole number that is nearest to a / b: it is at most a half away, and even where it is just a half away.
pub record IsNearest (q a b : ℕ) : Type 0 where
  pub below : 2 * a ≤ (2 * q + 1) * b
  pub above : 2 * q * b ≤ 2 * a + b
  pub even : ((2 * a ≡ (2 * q + 1) * b) ⊎ (2 * q * b ≡ 2 * a + b)) → q % 2 ≡ 0

-- z is the decimal exponent of a / b: the fraction is at least 10 ^ z and below 10 ^ (z + 1).
abbrev pub IsExponent : ℤ → ℕ → ℕ → Type 0
IsExponent (pos k) a b = (10 ^ k * b ≤ a) × (a < 10 ^ suc k * b)
IsExponent (negsuc k) a b = (b ≤ a * 10 ^ suc k) × (a * 10 ^ k < b)

-- How many numbers below n pass the test.
unfoldable pub how_many : ℕ → (ℕ → Bool) → ℕ
how_many zero test = 0
how_many (suc n) test = (if test n then 1 else 0) + how_many n test

-- The decimal exponent of a fraction between 10^-1100 and 10^1100, as each double above 0 is: of 1 or more, how many of 10, 100, .. it reaches;
-- of a smaller one, how many of its tenfold, its hundredfold, .. are below 1, and one more, as a negative number.
unfoldable pub exponent_of : ℕ → ℕ → ℤ
exponent_of a b =
    if nat_le b a then pos (how_many 1100 (λ k. nat_le (10 ^ suc k * b) a))
    else negsuc (how_many 1100 (λ k. nat_lt (a * 10 ^ suc k) b))

-- The whole number nearest to a / b * 10 ^ (d - z), ties to even: the digits of a / b to the d-th behind its first.
abbrev pub significand : ℕ → ℤ → ℕ → ℕ → ℕ
significand d (pos k) a b = closest (a * 10 ^ d) (10 ^ k * b)
significand d (negsuc k) a b = closest (a * 10 ^ d * 10 ^ suc k) b

-- Ten to the (d + 1) has a digit too many: its first is of the next power of ten.
abbrev pub carried_over : ℕ → ℕ → ℤ → Scientific
carried_over d n z = if n == 10 ^ suc d then record { digits = 10 ^ d; exponent = z +ℤ pos 1 } else record { digits = n; exponent = z }

-- The decimal of d + 1 digits that is nearest to a / b, ties to the even last digit.
unfoldable pub nearest_decimal : ℕ → ℕ → ℕ → Scientific
nearest_decimal d a b = if a == 0 then record { digits = 0; exponent = pos 0 } else carried_over d (significand d (exponent_of a b) a b) (exponent_of a b)
