-- Sizes of doubles.
use Rattle.std.specs.Prelude.{◌≡◌, ℕ, ◌*◌, ◌/◌, ◌≤◌, false, pos}
use Rattle.std.specs.Float.Ieee.{Float, nan, inf, fin, binary64, of_int, up, down}
use Rattle.std.specs.Float.Ieee.Positive.{num, den}

-- The whole number as a double.
abbrev pub whole_double : ℕ → Float
whole_double n = of_int binary64 (pos n)

-- The whole part of a finite number's size, which is the fraction num / den.
abbrev pub cut : Float → ℕ
cut x = num x / den x

-- A finite number without a sign, and at most n.
abbrev pub IsUpTo : ℕ → Float → Type 0
IsUpTo n nan = ⊥
IsUpTo n (inf s) = ⊥
IsUpTo n (fin s m e) = (s ≡ false) × (m * up e ≤ n * down e)
