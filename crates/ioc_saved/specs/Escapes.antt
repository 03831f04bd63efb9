-- Escapes in values: a line feed is `\n`, a carriage return `\r`, a tab `\t`, a backslash `\\`, any
-- other byte below 32 and the byte 127 `\xHH`. Any other byte stands as it is.
use Rattle.std.specs.Prelude.{ℕ, ◌+◌, ◌-◌, ◌*◌, ◌/◌, ◌%◌, List, [], ◌∷◌, length, Option, Some, None, nat_lt, nat_le, ◌==◌, ◌||◌, if◌then◌else◌}
use Rattle.std.specs.List.{flat_map}
use Rattle.ioc_saved.specs.declared.escapes.Escape.{Escape}
use Rattle.ioc_saved.specs.declared.escapes.Escape.TheVariants.{No, Begun, Hex, High}
use Rattle.ioc_saved.specs.declared.escapes.Step.{Step}
use Rattle.ioc_saved.specs.declared.escapes.Step.TheVariants.{Bad, Goes, Gives}

-- The digit for a number below 16.
abbrev pub hex_digit : ℕ → ℕ
hex_digit n = if nat_lt n 10 then 48 + n else 87 + n

-- A byte as it stands in a value.
abbrev pub escape : ℕ → List ℕ
escape b =
    if b == 10 then 92 ∷ 110 ∷ []
    else (if b == 13 then 92 ∷ 114 ∷ []
    else (if b == 9 then 92 ∷ 116 ∷ []
    else (if b == 92 then 92 ∷ 92 ∷ []
    else (if nat_lt b 32 || (b == 127) then 92 ∷ 120 ∷ hex_digit (b / 16) ∷ hex_digit (b % 16) ∷ [] else b ∷ []))))

-- A value as it stands in its line.
abbrev pub escaped : List ℕ → List ℕ
escaped value = flat_map escape value

-- The number that a digit stands for, in small or capital letters.
abbrev pub hex_value : ℕ → Option ℕ
hex_value c =
    if nat_lt c 48 then None
    else (if nat_lt c 58 then Some (c - 48)
    else (if nat_lt c 65 then None
    else (if nat_lt c 71 then Some (c - 55)
    else (if nat_lt c 97 then None
    else (if nat_lt c 103 then Some (c - 87) else None)))))

-- What comes of two digits.
abbrev pub digits : Option ℕ → Option ℕ → Step
digits None low = Bad
digits (Some high) None = Bad
digits (Some high) (Some low) = Gives (16 * high + low)

-- What comes of a byte behind what was read of an escape.
abbrev pub next_step : Escape → ℕ → Step
next_step No b = if b == 92 then Goes Begun else Gives b
next_step Begun b =
    if b == 110 then Gives 10
    else (if b == 114 then Gives 13
    else (if b == 116 then Gives 9
    else (if b == 92 then Gives 92
    else (if b == 120 then Goes Hex else Bad))))
next_step Hex b = Goes (High b)
next_step (High high) b = digits (hex_value high) (hex_value b)

abbrev pub onto : ℕ → Option (List ℕ) → Option (List ℕ)
onto b None = None
onto b (Some bs) = Some (b ∷ bs)

abbrev pub follow : Step → (Escape → Option (List ℕ)) → Option (List ℕ)
follow Bad rest = None
follow (Goes state) rest = rest state
follow (Gives b) rest = onto b (rest No)

-- At the end of a line no escape may be open.
abbrev pub ended : Escape → Option (List ℕ)
ended No = Some []
ended Begun = None
ended Hex = None
ended (High high) = None

-- The value that the bytes of a line stand for, nothing if a backslash begins no escape.
abbrev pub unescaped : Escape → List ℕ → Option (List ℕ)
unescaped state [] = ended state
unescaped state (b ∷ bs) = follow (next_step state b) (λ next. unescaped next bs)

-- The bytes, if they are no more than the limit.
abbrev pub limited : ℕ → Option (List ℕ) → Option (List ℕ)
limited limit None = None
limited limit (Some bs) = if nat_le (length bs) limit then Some bs else None
