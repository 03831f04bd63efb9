-- The line of a value: the record, a dot, the field, a space, and the value with escapes.
use Rattle.std.specs.Prelude.{◌≡◌, ℕ, Bool, true, List, [], ◌∷◌, ◌++◌, length, Option, Some, None, not, nat_lt, nat_le, ◌==◌, ◌||◌, ◌&&◌, if◌then◌else◌}
use Rattle.ioc_saved.specs.declared.value.SavedValue.{SavedValue}
use Rattle.ioc_saved.specs.declared.line.SavedLine.{SavedLine}
use Rattle.ioc_saved.specs.declared.line.SavedLine.TheVariants.{Passed, Value, Bad}
use Rattle.ioc_saved.specs.declared.escapes.Escape.TheVariants.{No}
use Rattle.ioc_saved.specs.Words.{lacks, before, behind}
use Rattle.ioc_saved.specs.Escapes.{escaped, unescaped, limited}

-- Whether a line holds no value: it is empty or begins with `#` or `!`.
abbrev pub is_passed : List ℕ → Bool
is_passed [] = true
is_passed (b ∷ bs) = (b == 35) || (b == 33)

-- Whether a name has a length from 1 to the limit.
abbrev pub is_long_as : ℕ → List ℕ → Bool
is_long_as limit name = nat_lt 0 (length name) && nat_le (length name) limit

-- Whether the name is one of a record: of 1 to 60 bytes without spaces, line feeds and dots, which
-- doesn't begin as a comment does.
abbrev pub is_record_name : List ℕ → Bool
is_record_name name = is_long_as 60 name && (lacks 10 name && (lacks 32 name && (lacks 46 name && not (is_passed name))))

-- Whether the name is one of a field: of 1 to 8 bytes without spaces and line feeds.
abbrev pub is_field_name : List ℕ → Bool
is_field_name name = is_long_as 8 name && (lacks 10 name && lacks 32 name)

-- Whether a value can be saved.
unfoldable pub is_saveable : SavedValue → Bool
is_saveable v = is_record_name v.record_name && (is_field_name v.field && nat_le (length v.value) 120)

-- The line of a value, without its line feed.
unfoldable pub row : SavedValue → List ℕ
row v = v.record_name ++ 46 ∷ v.field ++ 32 ∷ escaped v.value

infixl 10 ◌>>=◌
abbrev pub ◌>>=◌ : {A B : Type 0} → Option A → (A → Option B) → Option B
(Some x) >>= f = f x
None >>= f = None

-- What a function returned, seen by `view`, is what reading gives.
abbrev pub Gives : {X Y : Type 0} → (X → Y) → Option X → Option Y → Type 0
Gives view (Some x) read = read ≡ Some (view x)
Gives view None read = read ≡ None

abbrev pub name_in : ℕ → List ℕ → Option (List ℕ)
name_in limit name = if is_long_as limit name then Some name else None

abbrev pub text_in : List ℕ → Option (List ℕ)
text_in coded = limited 120 (unescaped No coded)

-- The value of a line. The first space ends the names, the first dot the record's name.
unfoldable pub value_in : List ℕ → Option SavedValue
value_in line =
    name_in 60 (before 46 (before 32 line)) >>= λ name.
    name_in 8 (behind 46 (before 32 line)) >>= λ field.
    text_in (behind 32 line) >>= λ value.
    Some (record { record_name = name; field = field; value = value })

-- The value of the first line of a text.
unfoldable pub saved_in : List ℕ → Option SavedValue
saved_in text = value_in (before 10 text)

abbrev pub line_with : Option SavedValue → SavedLine
line_with None = Bad
line_with (Some v) = Value v

-- What a line holds.
unfoldable pub line_in : List ℕ → SavedLine
line_in line = if is_passed line then Passed else line_with (value_in line)
