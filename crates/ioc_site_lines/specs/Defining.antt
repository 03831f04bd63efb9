-- Texts that define macros, as `A=x,B="y z"`. macLib of EPICS Base.
use Rattle.std.specs.Prelude.{ℕ, Bool, true, false, not, List, [], ◌∷◌, ◌-◌, length, take, drop, Option, Some, None, ◌==◌, ◌||◌, if◌then◌else◌}
use Rattle.std.specs.List.{onto_first, prefix_len, suffix_len}
use Rattle.std.specs.Char.{is_ascii_whitespace}
use Rattle.ioc_dblex.specs.Bytes.{escapes}
use Rattle.ioc_dblex.specs.Macros.{Defined}
use Rattle.ioc_site_lines.specs.declared.macros.Definition.{Definition}

-- Whether the byte opens a text between quotes: 34 is `"`, and 39 is `'`.
abbrev pub is_quote : ℕ → Bool
is_quote b = (b == 34) || (b == 39)

-- The quote that is open behind a byte, which a backslash before it escapes or doesn't.
abbrev pub quote_after : Option ℕ → Bool → ℕ → Option ℕ
quote_after quote true b = quote
quote_after None false b = if is_quote b then Some b else None
quote_after (Some q) false b = if q == b then None else Some q

-- Whether a text is cut at this byte: it is the sign, outside quotes and not escaped.
abbrev pub cuts : ℕ → Option ℕ → Bool → ℕ → Bool
cuts sign (Some q) escaped b = false
cuts sign None true b = false
cuts sign None false b = b == sign

-- What stands before the first sign at which a text is cut, and behind it.
abbrev pub bare_front : ℕ → Option ℕ → Bool → List ℕ → List ℕ
bare_front sign quote escaped [] = []
bare_front sign quote escaped (b ∷ bs) = if cuts sign quote escaped b then [] else b ∷ bare_front sign (quote_after quote escaped b) (escapes escaped b) bs

abbrev pub bare_back : ℕ → Option ℕ → Bool → List ℕ → Option (List ℕ)
bare_back sign quote escaped [] = None
bare_back sign quote escaped (b ∷ bs) = if cuts sign quote escaped b then Some bs else bare_back sign (quote_after quote escaped b) (escapes escaped b) bs

-- The bytes without blanks behind them, and without those before them either.
abbrev pub unended : List ℕ → List ℕ
unended text = take (length text - suffix_len is_ascii_whitespace text) text

abbrev pub trimmed : List ℕ → List ℕ
trimmed text = unended (drop (prefix_len is_ascii_whitespace text) text)

-- The macro of a name and of what stands behind its `=`, which is 61.
abbrev pub assigned : List ℕ → Option (List ℕ) → Option Defined
assigned name None = None
assigned [] (Some value) = None
assigned (b ∷ bs) (Some value) = Some (record { name = b ∷ bs; value = trimmed value })

abbrev pub definition_in : List ℕ → Option Defined
definition_in part = assigned (trimmed (bare_front 61 None false part)) (bare_back 61 None false part)

-- The parts of a text between its commas, which are 44.
abbrev pub parts : Option ℕ → Bool → List ℕ → List (List ℕ)
parts quote escaped [] = [] ∷ []
parts quote escaped (b ∷ bs) = if cuts 44 quote escaped b then [] ∷ parts None false bs else onto_first b (parts (quote_after quote escaped b) (escapes escaped b) bs)

-- The macros that parts define. One that defines none is passed.
abbrev pub onto : Option Defined → List Defined → List Defined
onto None ds = ds
onto (Some d) ds = d ∷ ds

abbrev pub defined_by : List (List ℕ) → List Defined
defined_by [] = []
defined_by (p ∷ ps) = onto (definition_in p) (defined_by ps)

-- The macros that a text defines, in its order.
abbrev pub definitions_of : List ℕ → List Defined
definitions_of text = defined_by (parts None false text)

-- A definition, as its name and its value.
abbrev pub seen : Definition → Defined
seen d = record { name = d.name.items; value = d.value.items }
