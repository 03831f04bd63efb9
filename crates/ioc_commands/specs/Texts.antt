-- Texts of fields in lines. A line feed (10) is `\n`, a carriage return (13) `\r`, each other byte below 32 but the tab (9), and 127,
-- is `\xHH`; where programs read, a tab is `\t` and a backslash (92) `\\` too. As epicsStrnEscapedFromRaw and its inverse have it:
-- Application Developer's Guide, "libCom OSI libraries", epicsString.h.
use Rattle.std.specs.Prelude.{ℕ, Bool, true, ◌+◌, ◌*◌, ◌/◌, ◌%◌, List, [], ◌∷◌, codes, nat_lt, ◌==◌, ◌&&◌, ◌||◌, not, if◌then◌else◌, Option, Some, None, option_map}
use Rattle.std.specs.Char.{digit_value}
use Rattle.std.specs.List.{flat_map}
use Rattle.ioc_values.specs.Number.{below}
use Rattle.ioc_commands.specs.declared.texts.Escape.{Escape}
use Rattle.ioc_commands.specs.declared.texts.Escape.TheVariants.{No, Begun, Number, High}
use Rattle.ioc_commands.specs.declared.texts.Step.{Step}
use Rattle.ioc_commands.specs.declared.texts.Step.TheVariants.{Bad, GoesOn, Ends}

-- Whether a terminal doesn't show the byte. A tab is shown.
abbrev pub is_hidden : ℕ → Bool
is_hidden b = (nat_lt b 32 && not (b == 9)) || (b == 127)

-- The digit for a number below 16.
abbrev pub hex_digit : ℕ → ℕ
hex_digit n = if nat_lt n 10 then 48 + n else 87 + n

-- A byte as a line shows it.
abbrev pub shown_byte : ℕ → List ℕ
shown_byte b =
    if b == 10 then codes "\\n"
    else (if b == 13 then codes "\\r"
    else (if is_hidden b then 92 ∷ 120 ∷ hex_digit (b / 16) ∷ hex_digit (b % 16) ∷ []
    else b ∷ []))

-- A byte as programs read it.
abbrev pub escaped_byte : ℕ → List ℕ
escaped_byte b = if b == 9 then codes "\\t" else (if b == 92 then codes "\\\\" else shown_byte b)

-- A text as a line shows it.
abbrev pub shown : List ℕ → List ℕ
shown text = flat_map shown_byte text

-- A text as programs read it.
abbrev pub escaped : List ℕ → List ℕ
escaped text = flat_map escaped_byte text

-- The number that a hexadecimal digit stands for.
abbrev pub hex_value : ℕ → Option ℕ
hex_value c = below 16 (Some (digit_value c))

-- The byte that a letter behind a backslash stands for. Behind `x` (120) its number follows.
abbrev pub behind_backslash : ℕ → Step
behind_backslash b =
    if b == 110 then Ends 10
    else (if b == 114 then Ends 13
    else (if b == 116 then Ends 9
    else (if b == 92 then Ends 92
    else (if b == 120 then GoesOn Number else Bad))))

-- Whether the first digit of a number, if it was read, is one.
abbrev pub is_begun : Escape → Bool
is_begun (High high) = nat_lt high 16
is_begun state = true

abbrev pub first_digit : Option ℕ → Step
first_digit None = Bad
first_digit (Some high) = GoesOn (High high)

abbrev pub second_digit : ℕ → Option ℕ → Step
second_digit high None = Bad
second_digit high (Some low) = Ends (16 * high + low)

-- What a byte means behind what was read of an escape.
abbrev pub step_of : Escape → ℕ → Step
step_of No b = if b == 92 then GoesOn Begun else Ends b
step_of Begun b = behind_backslash b
step_of Number b = first_digit (hex_value b)
step_of (High high) b = second_digit high (hex_value b)

-- No escape is left open at the end.
abbrev pub at_end : Escape → Option (List ℕ)
at_end No = Some []
at_end state = None

abbrev pub then_read : (Escape → Option (List ℕ)) → Step → Option (List ℕ)
then_read rest Bad = None
then_read rest (GoesOn state) = rest state
then_read rest (Ends byte) = option_map (λ (text : List ℕ). byte ∷ text) (rest No)

-- The text that bytes with escapes stand for; none where a backslash begins no escape.
abbrev pub unescaped : List ℕ → Escape → Option (List ℕ)
unescaped [] state = at_end state
unescaped (b ∷ bs) state = then_read (unescaped bs) (step_of state b)
