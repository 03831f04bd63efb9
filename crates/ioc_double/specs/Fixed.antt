-- A size of at most 10^7 with d digits behind the point.
use Rattle.std.specs.Prelude.{ℕ, ◌+◌, ◌/◌, ◌^◌, ◌==◌, List, ◌++◌, if◌then◌else◌}
use Rattle.std.specs.Fmt.{decimal}
use Rattle.std.specs.Float.Ieee.{Float, binary64, sub, mul}
use Rattle.ioc_double.specs.declared.fixed.Fixed.{Fixed}
use Rattle.ioc_double.specs.Pieces.{fraction_text}
use Rattle.ioc_double.specs.Size.{whole_double, cut}

-- The number times 10 ^ d, times 10, each product rounded.
abbrev pub scaled : Float → ℕ → Float
scaled rest d = mul binary64 (mul binary64 rest (whole_double (10 ^ d))) (whole_double 10)

-- Ten times the d digits behind the point of a rest of at most 1.
abbrev pub tenths_of : Float → ℕ → ℕ
tenths_of rest d = cut (scaled rest d)

-- The whole part and the d digits behind the point. The digits are rounded, a half of the last one up, so that they may be 10 ^ d.
unfoldable pub parts_of : Float → ℕ → Fixed
parts_of size d =
    let whole = cut size in
    record { whole = whole; fraction = (tenths_of (sub binary64 size (whole_double whole)) d + 5) / 10 }

-- The parts, of which 10 ^ d behind the point is one more whole.
unfoldable pub carried : ℕ → Fixed → Fixed
carried d parts = if parts.fraction == 10 ^ d then record { whole = parts.whole + 1; fraction = 0 } else parts

-- Whole part, point and d digits.
abbrev pub fixed_text : Float → ℕ → List ℕ
fixed_text size d = let parts = carried d (parts_of size d) in decimal parts.whole ++ fraction_text d parts.fraction
