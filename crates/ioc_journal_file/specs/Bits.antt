-- The bits of a double in hexadecimal digits. IEEE 754, "Binary interchange format encodings".
use Rattle.std.specs.Prelude.{ℕ, zero, suc, ◌+◌, ◌*◌, ◌/◌, ◌%◌, ◌^◌, List, [], ◌∷◌, ◌++◌, Option, Some, None, length, ◌==◌, from_bits, to_bits, if◌then◌else◌}
use Rattle.std.specs.Float.Ieee.{Float, binary64}
use Rattle.ioc_journal_file.specs.Texts.{hex_digit, hex_value}

-- As many hexadecimal digits of the number as are given, the last ones; small letters stand for 10 to 15.
abbrev pub hexadecimal : ℕ → ℕ → List ℕ
hexadecimal zero n = []
hexadecimal (suc k) n = hexadecimal k (n / 16) ++ hex_digit (n % 16) ∷ []

-- The number of hexadecimal digits that follow those of `n`. Only the last sixteen count.
abbrev pub number_after : ℕ → List ℕ → ℕ
number_after n [] = n
number_after n (d ∷ ds) = number_after (n % 2 ^ 60 * 16 + hex_value d) ds

-- The sixteen digits of the bits of a double; all NaN have those of one, 7ff8000000000000.
unfoldable pub bits_text : Float → List ℕ
bits_text x = hexadecimal 16 (to_bits binary64 x)

-- The double that sixteen digits spell.
unfoldable pub bits_double : List ℕ → Option Float
bits_double word = if length word == 16 then Some (from_bits binary64 (number_after 0 word)) else None
