-- The number that a text spells: an optional sign followed by decimal digits, or by 0x and
-- hexadecimal digits.
use Rattle.std.specs.Prelude.{ℕ, Bool, false, ◌^◌, List, [], ◌∷◌, ℤ, pos, negsuc, neg_ℤ, Option, Some, None, option_map, ◌==◌, nat_lt, ◌&&◌, if◌then◌else◌}
use Rattle.std.specs.Char.{digit_value}
use Rattle.std.specs.List.{list_all}
use Rattle.std.specs.Str.Parse.{digits_value}
use Rattle.ioc_values.specs.Trim.{is_blank, trimmed}

-- Whether each byte is a digit.
abbrev pub all_digits : ℕ → List ℕ → Bool
all_digits radix cs = list_all (λ c. nat_lt (digit_value c) radix) cs

-- The number that one or more digits spell.
abbrev pub numeral : ℕ → List ℕ → Option ℕ
numeral radix [] = None
numeral radix (c ∷ cs) = if all_digits radix (c ∷ cs) then Some (digits_value radix (c ∷ cs)) else None

-- The number that decimal digits, or 0x and hexadecimal digits, spell.
unfoldable pub magnitude : List ℕ → Option ℕ
magnitude [] = None
magnitude (c ∷ []) = numeral 10 (c ∷ [])
magnitude (c ∷ d ∷ ds) = if (c == 48) && (d == 120) then numeral 16 ds else numeral 10 (c ∷ d ∷ ds)

-- The number, if it is below the limit.
abbrev pub below : ℕ → Option ℕ → Option ℕ
below limit None = None
below limit (Some n) = if nat_lt n limit then Some n else None

-- The number that a text without blanks at its ends spells, with an optional sign.
unfoldable pub signed : List ℕ → Option ℤ
signed [] = None
signed (c ∷ cs) =
    if c == 45 then option_map (λ n. neg_ℤ (pos n)) (magnitude cs)
    else (if c == 43 then option_map pos (magnitude cs) else option_map pos (magnitude (c ∷ cs)))

-- The number that a text spells, without the spaces at both ends.
abbrev pub number_of : List ℕ → Option ℤ
number_of text = signed (trimmed (is_blank false) text)

-- Whether the number is from -limit to limit - 1.
abbrev pub is_within : ℕ → ℤ → Bool
is_within limit (pos n) = nat_lt n limit
is_within limit (negsuc n) = nat_lt n limit

-- Whether the number is from -2^63 to 2^63 - 1.
abbrev pub fits_i64 : ℤ → Bool
fits_i64 z = is_within (2 ^ 63) z

-- The number, if it fits 64 bits.
abbrev pub within_i64 : Option ℤ → Option ℤ
within_i64 None = None
within_i64 (Some z) = if fits_i64 z then Some z else None
