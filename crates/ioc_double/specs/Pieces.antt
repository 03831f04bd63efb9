-- Decimal digits and what stands in front of and behind them in a text.
use Rattle.std.specs.Prelude.{ℕ, zero, suc, ◌+◌, ◌-◌, ◌/◌, ◌%◌, ◌^◌, ◌==◌, List, [], ◌∷◌, ◌++◌, length, replicate, nat_lt, ℤ, pos, negsuc, if◌then◌else◌}
use Rattle.std.specs.Fmt.{decimal}
use Rattle.ioc_double.specs.declared.scientific.Scientific.{Scientific}

-- The last digits of n, so many of them: with zeros in front where n has fewer.
unfoldable pub last_digits : ℕ → ℕ → List ℕ
last_digits zero n = []
last_digits (suc count) n = last_digits count (n / 10) ++ (48 + n % 10) ∷ []

-- A point and the last digits of n, or nothing for none.
abbrev pub fraction_text : ℕ → ℕ → List ℕ
fraction_text count n = if count == 0 then [] else 46 ∷ last_digits count n

-- A number with a point before its last digits.
abbrev pub with_point : ℕ → ℕ → List ℕ
with_point count n = decimal (n / 10 ^ count) ++ fraction_text count n

-- An exponent's digits, two at least. No double has an exponent of more than three.
abbrev pub exponent_digits : ℕ → List ℕ
exponent_digits size = last_digits (if nat_lt size 100 then 2 else 3) size

-- The sign of an exponent and its digits.
abbrev pub exponent_text : ℤ → List ℕ
exponent_text (pos n) = 43 ∷ exponent_digits n
exponent_text (negsuc n) = 45 ∷ exponent_digits (suc n)

-- The text with spaces in front, up to so many bytes.
abbrev pub padded : ℕ → List ℕ → List ℕ
padded width text = replicate (width - length text) 32 ++ text

-- Digits with a point behind the first, and an exponent.
abbrev pub scientific_text : ℕ → Scientific → List ℕ
scientific_text d x = last_digits 1 (x.digits / 10 ^ d) ++ fraction_text d x.digits ++ 101 ∷ exponent_text x.exponent
