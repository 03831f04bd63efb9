-- Doubles cut to whole numbers.
use Rattle.std.specs.Prelude.{ℕ, zero, suc, pos, neg_ℤ, ◌+◌, ◌*◌, ◌/◌, ◌^◌, ◌%◌, ◌==◌, ◌||◌, Bool, not, if◌then◌else◌}
use Rattle.std.specs.Float.{float_is_finite}
use Rattle.std.specs.Float.Ieee.{Float, nan, inf, fin, binary64, of_int, of_bits, up, down, lt, is_nan}

-- the size of a number, without its sign and its fraction; 0 for NaN and infinities
abbrev pub size_of : Float → ℕ
size_of nan = 0
size_of (inf s) = 0
size_of (fin s m e) = m * up e / down e

-- the whole number of this size
unfoldable pub signed : Bool → ℕ → Float
signed negative n = of_int binary64 (if negative then neg_ℤ (pos n) else pos n)

-- The remainder of two numbers that are cut to whole ones, with the sign of the first, and never -0.
-- It is NaN where one is NaN, where the first is infinite and where the second is cut to 0.
unfoldable pub remainder : Float → Float → Float
remainder x y =
    if not (float_is_finite x) || is_nan y then nan
    else (if not (float_is_finite y) then signed (lt x (of_bits binary64 0)) (size_of x)
    else (if size_of y == 0 then nan else signed (lt x (of_bits binary64 0)) (size_of x % size_of y)))

-- the size of the number that has this exponent field and these digits
abbrev pub size_of_fields : ℕ → ℕ → ℕ
size_of_fields zero t = t * 2 ^ 0 / 2 ^ 1074
size_of_fields (suc k) t = (4503599627370496 + t) * 2 ^ k / 2 ^ 1074
