-- The text of a double with d digits.
use Rattle.std.specs.Prelude.{ℕ, ◌+◌, ◌*◌, ◌^◌, false, ◌&&◌, List, [], ◌∷◌, ◌++◌, nat_le, is_nan, codes, if◌then◌else◌}
use Rattle.std.specs.Float.{float_with_sign}
use Rattle.std.specs.Float.Ieee.{Float, nan, inf, fin, lt, le, up, down}
use Rattle.ioc_double.specs.declared.text.Layout.{Layout}
use Rattle.ioc_double.specs.declared.text.Layout.TheVariants.{Fixed, Rounded, NotANumber, Padded}
use Rattle.ioc_double.specs.Fixed.{fixed_text}
use Rattle.ioc_double.specs.Rounded.{rounded_text}
use Rattle.ioc_double.specs.Size.{whole_double}
use Rattle.ioc_double.specs.Nearest.{nearest_decimal}
use Rattle.ioc_double.specs.Pieces.{scientific_text, padded}

-- The number without its sign.
abbrev pub size_of : Float → Float
size_of x = float_with_sign false x

-- Any size: of a number the nearest decimal of d + 1 digits.
unfoldable pub wide_text : Float → ℕ → List ℕ
wide_text nan d = codes "nan"
wide_text (inf s) d = codes "inf"
wide_text (fin s m e) d = scientific_text d (nearest_decimal d (m * up e) (down e))

-- `-` before a number below 0, which -0 isn't.
abbrev pub minus_text : Float → List ℕ
minus_text x = if lt x (whole_double 0) then 45 ∷ [] else []

-- How a double is laid out, by its size and its digits.
unfoldable pub layout_of : Float → ℕ → Layout
layout_of x d =
    if nat_le d 8 && le (size_of x) (whole_double (10 ^ 7)) then Fixed
    else (if nat_le d 8 && le (size_of x) (whole_double (10 ^ 16)) then Rounded
    else (if nat_le d 8 && is_nan x then NotANumber else Padded))

-- The text in a layout.
abbrev pub text_in : Layout → Float → ℕ → List ℕ
text_in Fixed x d = minus_text x ++ fixed_text (size_of x) d
text_in Rounded x d = minus_text x ++ rounded_text (size_of x) d
text_in NotANumber x d = codes "nan"
text_in Padded x d = padded (d + 7) (minus_text x ++ wide_text (size_of x) d)

-- The text of a double with d digits.
unfoldable pub text_of_double : Float → ℕ → List ℕ
text_of_double x d = text_in (layout_of x d) x d
