-- Texts on one line: a control character stands as `\x` and two hexadecimal digits.
use Rattle.std.specs.Prelude.{ℕ, Bool, ◌+◌, ◌/◌, ◌%◌, List, [], ◌∷◌, nat_lt, ◌==◌, ◌||◌, if◌then◌else◌}
use Rattle.std.specs.List.{flat_map}

-- Whether the byte is a control character.
abbrev pub is_control : ℕ → Bool
is_control b = nat_lt b 32 || (b == 127)

-- The digit for a number below 16.
abbrev pub hex_digit : ℕ → ℕ
hex_digit n = if nat_lt n 10 then 48 + n else 87 + n

-- A byte as it stands on one line: 92 is a backslash, and 120 is `x`.
abbrev pub one_line_byte : ℕ → List ℕ
one_line_byte b = if is_control b then 92 ∷ 120 ∷ hex_digit (b / 16) ∷ hex_digit (b % 16) ∷ [] else b ∷ []

-- A text as it stands on one line.
abbrev pub on_one_line : List ℕ → List ℕ
on_one_line text = flat_map one_line_byte text
