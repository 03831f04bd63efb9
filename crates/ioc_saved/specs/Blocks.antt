-- A value of a channel as a line of a database text: a second `record` of the same type and name, which sets the field.
use Rattle.std.specs.Prelude.{ℕ, Bool, false, List, [], ◌∷◌, ◌++◌, Option, Some, None, codes, not, nat_le, ◌==◌, ◌||◌, ◌&&◌, if◌then◌else◌}
use Rattle.std.specs.List.{flat_map, list_all}
use Rattle.ioc_dblex.specs.Macros.{opens_macro}
use Rattle.ioc_saved.specs.declared.value.SavedValue.{SavedValue}

-- The byte that stands behind a backslash for this one between double quotes, if one does. The letters are `a`, `b`, `t`, `n`, `v`,
-- `f` and `r`.
abbrev pub letter_for : ℕ → Option ℕ
letter_for b =
    if (b == 34) || (b == 92) then Some b
    else (if b == 7 then Some 97
    else (if b == 8 then Some 98
    else (if b == 9 then Some 116
    else (if b == 10 then Some 110
    else (if b == 11 then Some 118
    else (if b == 12 then Some 102
    else (if b == 13 then Some 114 else None)))))))

abbrev pub quoted_as : Option ℕ → ℕ → List ℕ
quoted_as (Some letter) b = 92 ∷ letter ∷ []
quoted_as None b = b ∷ []

-- A byte as it stands between double quotes.
abbrev pub quoted_byte : ℕ → List ℕ
quoted_byte b = quoted_as (letter_for b) b

-- A text between double quotes.
unfoldable pub quoted : List ℕ → List ℕ
quoted text = 34 ∷ flat_map quoted_byte text ++ 34 ∷ []

-- The setting of a field, up to the end of the line.
unfoldable pub setting : SavedValue → List ℕ
setting v = codes "{field(" ++ v.field ++ 44 ∷ quoted v.value ++ codes ")}" ++ 10 ∷ []

-- The block that gives a record of this type the value.
unfoldable pub block_of : List ℕ → SavedValue → List ℕ
block_of record_type v = codes "record(" ++ record_type ++ 44 ∷ quoted v.record_name ++ 41 ∷ setting v

-- ---- What a block can say

-- Whether a record's name can have the byte: one from 33 to 126, except `"`, `$`, `'` and `.`.
abbrev pub is_name_byte : ℕ → Bool
is_name_byte b = nat_le 33 b && (nat_le b 126 && (not (b == 34) && (not (b == 36) && (not (b == 39) && not (b == 46)))))

-- Whether a field's name can have the byte: a capital letter or a digit.
abbrev pub is_field_byte : ℕ → Bool
is_field_byte b = (nat_le 65 b && nat_le b 90) || (nat_le 48 b && nat_le b 57)

-- Whether a macro would be replaced in the text: one begins with `$(` or `${`.
abbrev pub has_macro : List ℕ → Bool
has_macro [] = false
has_macro (b ∷ bs) = ((b == 36) && opens_macro bs) || has_macro bs

abbrev pub some_of : (ℕ → Bool) → List ℕ → Bool
some_of is_byte [] = false
some_of is_byte (b ∷ bs) = list_all is_byte (b ∷ bs)

-- Whether a block can say the value.
unfoldable pub has_block : SavedValue → Bool
has_block v = some_of is_name_byte v.record_name && (some_of is_field_byte v.field && not (has_macro v.value))
