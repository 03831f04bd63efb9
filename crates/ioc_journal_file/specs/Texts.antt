-- Texts in quotation marks. A byte below 32, a quotation mark, a backslash and the byte 127 stand as
-- a backslash and two hexadecimal digits; any other byte stands as it is.
use Rattle.std.specs.Prelude.{ℕ, Bool, ◌+◌, ◌*◌, ◌/◌, ◌%◌, List, [], ◌∷◌, ◌++◌, nat_lt, ◌==◌, ◌||◌, if◌then◌else◌}
use Rattle.std.specs.List.{flat_map}
use Rattle.ioc_journal_file.specs.declared.texts.Escape.{Escape}
use Rattle.ioc_journal_file.specs.declared.texts.Escape.TheVariants.{No, Begun, High}

-- Whether the byte has to be escaped.
abbrev pub is_special : ℕ → Bool
is_special b = nat_lt b 32 || ((b == 34) || ((b == 92) || (b == 127)))

-- The digit for a number below 16.
abbrev pub hex_digit : ℕ → ℕ
hex_digit n = if nat_lt n 10 then 48 + n else 87 + n

-- The number that a digit stands for. A byte that is no digit stands for some number below 16.
abbrev pub hex_value : ℕ → ℕ
hex_value c = if nat_lt c 97 then c % 16 else (c % 16 + 9) % 16

-- A byte as it stands in a text.
abbrev pub escape : ℕ → List ℕ
escape b = if is_special b then 92 ∷ hex_digit (b / 16) ∷ hex_digit (b % 16) ∷ [] else b ∷ []

-- A text in quotation marks.
abbrev pub quoted : List ℕ → List ℕ
quoted text = 34 ∷ flat_map escape text ++ 34 ∷ []

-- The text of a word: quotation marks are left out, and the two digits after a backslash stand for a
-- byte.
abbrev pub unescaped : Escape → List ℕ → List ℕ
unescaped state [] = []
unescaped No (b ∷ bs) = if b == 92 then unescaped Begun bs else (if b == 34 then unescaped No bs else b ∷ unescaped No bs)
unescaped Begun (b ∷ bs) = unescaped (High b) bs
unescaped (High high) (b ∷ bs) = (16 * hex_value high + hex_value b) ∷ unescaped No bs
