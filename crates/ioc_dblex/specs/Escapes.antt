-- Escapes in the bytes between double quotes. EPICS Application Developer's Guide, "Database
-- Definition", "Quoted strings" and "Escape sequences".
use Rattle.std.specs.Prelude.{ℕ, Bool, List, [], ◌∷◌, ◌++◌, Option, Some, None, ◌==◌, ◌||◌, if◌then◌else◌}
use Rattle.ioc_dblex.specs.Bytes.{escapes}

-- The byte that a backslash and one of ' a b t n v f r escape in field values only.
unfoldable pub control_of : ℕ → Option ℕ
control_of b =
    if b == 39 then Some 39
    else (if b == 97 then Some 7
    else (if b == 98 then Some 8
    else (if b == 116 then Some 9
    else (if b == 110 then Some 10
    else (if b == 118 then Some 11
    else (if b == 102 then Some 12
    else (if b == 114 then Some 13 else None)))))))

-- The byte that a backslash and this byte escape. In a name only a double quote and a backslash can
-- be escaped.
unfoldable pub escaped_byte : Bool → ℕ → Option ℕ
escaped_byte in_value b = if (b == 34) || (b == 92) then Some b else (if in_value then control_of b else None)

-- The bytes of a pair with a backslash. A pair that isn't an escape is kept.
abbrev pub escaped_pair : Option ℕ → ℕ → List ℕ
escaped_pair (Some c) b = c ∷ []
escaped_pair None b = 92 ∷ b ∷ []

-- What one more byte adds to the text.
unfoldable pub piece_of : Bool → Bool → ℕ → List ℕ
piece_of in_value escaped b = if escaped then escaped_pair (escaped_byte in_value b) b else (if b == 92 then [] else b ∷ [])

-- The bytes with escapes replaced. The first one may be escaped already.
abbrev pub unescaped_from : Bool → Bool → List ℕ → List ℕ
unescaped_from in_value escaped [] = if escaped then 92 ∷ [] else []
unescaped_from in_value escaped (b ∷ bs) = piece_of in_value escaped b ++ unescaped_from in_value (escapes escaped b) bs
