-- Macros, and the replacement of those in a line. EPICS Application Developer's Guide, "Database
-- Definition", "Macro substitution".
use Rattle.std.specs.Prelude.{ℕ, zero, suc, Bool, true, false, List, [], ◌∷◌, ◌++◌, ◌+◌, length, Option, Some, None, nat_eq, ◌==◌, ◌&&◌, ◌||◌, if◌then◌else◌}
use Rattle.std.specs.Cmp.Lexicographic.{pointwise}
use Rattle.ioc_dblex.specs.Bytes.{is_alphanumeric}

-- The name of a macro and its value.
pub record Defined : Type 0 where
  pub name : List ℕ
  pub value : List ℕ

-- Whether the byte is a letter, a digit or _.
unfoldable pub is_macro_byte : ℕ → Bool
is_macro_byte b = is_alphanumeric b || (b == 95)

abbrev pub all_macro_bytes : List ℕ → Bool
all_macro_bytes [] = true
all_macro_bytes (b ∷ bs) = if is_macro_byte b then all_macro_bytes bs else false

-- Whether the text is a macro name: at least one of these bytes, and no other byte.
abbrev pub is_macro_name : List ℕ → Bool
is_macro_name [] = false
is_macro_name (b ∷ bs) = all_macro_bytes (b ∷ bs)

-- The value of the definition if it has this name, else the one that was found before.
abbrev pub newer : Defined → List ℕ → Option (List ℕ) → Option (List ℕ)
newer d name found = if pointwise nat_eq d.name name then Some d.value else found

-- The value of the last definition of a name, else the one that was found before.
abbrev pub value_from : Option (List ℕ) → List Defined → List ℕ → Option (List ℕ)
value_from found [] name = found
value_from found (d ∷ ds) name = value_from (newer d name found) ds name

-- The value of a name, which is that of its last definition.
abbrev pub value_of : List Defined → List ℕ → Option (List ℕ)
value_of ds name = value_from None ds name

-- The bytes before the first occurrence of this one.
abbrev pub front_of : ℕ → List ℕ → List ℕ
front_of c [] = []
front_of c (b ∷ bs) = if b == c then [] else b ∷ front_of c bs

-- The bytes from the first occurrence of this one on.
abbrev pub back_of : ℕ → List ℕ → List ℕ
back_of c [] = []
back_of c (b ∷ bs) = if b == c then b ∷ bs else back_of c bs

-- The bytes after the first one.
abbrev pub behind_first : List ℕ → Option (List ℕ)
behind_first [] = None
behind_first (b ∷ bs) = Some bs

-- The value, or else the default.
abbrev pub or_default : Option (List ℕ) → Option (List ℕ) → Option (List ℕ)
or_default (Some value) default = Some value
or_default None default = default

-- Whether this byte doesn't occur.
abbrev pub lacks : ℕ → List ℕ → Bool
lacks c [] = true
lacks c (b ∷ bs) = if b == c then false else lacks c bs

-- The value of `N` or `N=D` between its brackets: that of N, or else D. There is none if N isn't a
-- name or a `$` occurs.
unfoldable pub used : List Defined → List ℕ → Option (List ℕ)
used ds inner =
    if is_macro_name (front_of 61 inner) && lacks 36 inner then or_default (value_of ds (front_of 61 inner)) (behind_first (back_of 61 inner)) else None

-- The closing bracket: ) for (, and } for {.
unfoldable pub closing_of : ℕ → ℕ
closing_of b = if b == 40 then 41 else 125

-- The use of a macro: its value, and the number of bytes of the use after the `$`.
pub record Use : Type 0 where
  pub value : List ℕ
  pub size : ℕ

abbrev pub sized : ℕ → Option (List ℕ) → Option Use
sized size None = None
sized size (Some value) = Some (record { value = value; size = size })

-- The use, if the closing bracket is on the line.
abbrev pub closed : List Defined → List ℕ → List ℕ → Option Use
closed ds inner [] = None
closed ds inner (b ∷ bs) = sized (length inner + 2) (used ds inner)

-- The use of a macro after its `$`.
unfoldable pub use_at : List Defined → List ℕ → Option Use
use_at ds [] = None
use_at ds (b ∷ bs) = closed ds (front_of (closing_of b) bs) (back_of (closing_of b) bs)

-- Whether the first byte is an opening bracket.
abbrev pub opens_macro : List ℕ → Bool
opens_macro [] = false
opens_macro (b ∷ bs) = (b == 40) || (b == 123)

-- The text with these bytes in front, if there is one.
abbrev pub onto_text : List ℕ → Option (List ℕ) → Option (List ℕ)
onto_text front None = None
onto_text front (Some text) = Some (front ++ text)

-- The macro's value, followed by the replaced text after its use.
abbrev pub before_rest : Option Use → (ℕ → Option (List ℕ)) → Option (List ℕ)
before_rest None behind = None
before_rest (Some used) behind = onto_text used.value (behind used.size)

-- The text with its macros replaced, if they can be. Its first `skip` bytes belong to a macro that
-- is replaced already. Values are not replaced again, and a `$` before another byte is an ordinary
-- byte.
abbrev pub replaced_behind : ℕ → List Defined → List ℕ → Option (List ℕ)
replaced_behind skip ds [] = Some []
replaced_behind (suc skip) ds (b ∷ bs) = replaced_behind skip ds bs
replaced_behind zero ds (b ∷ bs) =
    if (b == 36) && opens_macro bs then before_rest (use_at ds bs) (λ size. replaced_behind size ds bs) else onto_text (b ∷ []) (replaced_behind zero ds bs)

abbrev pub replaced : List Defined → List ℕ → Option (List ℕ)
replaced ds text = replaced_behind 0 ds text
