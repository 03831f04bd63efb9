-- Texts are cut into definitions.
use Rattle.std.proofs.Common.{◌≡◌, ℕ, ◌<◌, ◌+◌, Bool, true, false, cond, List, [], ◌∷◌, length, Option, Some, None, refl, ap, ◌∙◌, arith, drop}
use Rattle.std.specs.Prelude.{option_map}
use Rattle.std.specs.Borrow.{Bor}
use Rattle.std.specs.List.{onto_first, prefix_len}
use Rattle.std.specs.Char.{is_ascii_whitespace}
use Rattle.std.specs.Str.{IsTrimAscii}
use Rattle.std.proofs.lemmas.Str.Ascii.{trim_ascii_is}
use Rattle.ioc_dblex.specs.Bytes.{escapes}
use Rattle.ioc_dblex.specs.Macros.{Defined}
use Rattle.ioc_site_lines.specs.Defining.{quote_after, cuts, bare_front, bare_back, trimmed, definition_in, parts, onto, defined_by, definitions_of}

-- What trimming gives.
pub trimmed_is : (s r : List ℕ) → IsTrimAscii s r → r ≡ trimmed s
trimmed_is s r h = trim_ascii_is s r (drop (prefix_len is_ascii_whitespace s) s) refl h

abbrev pub bytes_left : Option (Bor (List ℕ)) → Option (List ℕ)
bytes_left = option_map (λ r. r.now)

-- How much of a text is left.
abbrev pub left_length : Option (List ℕ) → ℕ
left_length None = 0
left_length (Some bytes) = length bytes + 1

-- The parts of what is left.
abbrev pub parts_left : Option (List ℕ) → List (List ℕ)
parts_left None = []
parts_left (Some bytes) = parts None false bytes

-- The macros that what is left defines.
abbrev pub defined_left : Option (List ℕ) → List Defined
defined_left left = defined_by (parts_left left)

step_parts : (c : Bool) (b : ℕ) (bs front : List ℕ) (back : Option (List ℕ)) (others : List (List ℕ)) → others ≡ front ∷ parts_left back
    → cond c ([] ∷ parts None false bs) (onto_first b others) ≡ cond c [] (b ∷ front) ∷ parts_left (cond c (Some bs) back)
step_parts true b bs front back others ih = refl
step_parts false b bs front back others ih = ap (onto_first b) ih

-- A text is its first part and what is behind the comma.
pub parts_cut : (quote : Option ℕ) (e : Bool) (w : List ℕ) → parts quote e w ≡ bare_front 44 quote e w ∷ parts_left (bare_back 44 quote e w)
parts_cut quote e [] = refl
parts_cut quote e (b ∷ bs) =
    step_parts (cuts 44 quote e b) b bs (bare_front 44 (quote_after quote e b) (escapes e b) bs) (bare_back 44 (quote_after quote e b) (escapes e b) bs)
    (parts (quote_after quote e b) (escapes e b) bs) (parts_cut (quote_after quote e b) (escapes e b) bs)

-- The macros of a text are that of its first part, if it defines one, and those behind it.
pub defined_cut : (w : List ℕ) → definitions_of w ≡ onto (definition_in (bare_front 44 None false w)) (defined_left (bare_back 44 None false w))
defined_cut w = ap defined_by (parts_cut None false w)

step_shorter : (c : Bool) (b : ℕ) (bs : List ℕ) (back : Option (List ℕ)) → left_length back < length bs + 1 → left_length (cond c (Some bs) back) < length (b ∷ bs) + 1
step_shorter true b bs back ih = omega arith
step_shorter false b bs back ih = omega (arith, ih)

-- Less is left behind the comma.
pub back_shorter : (quote : Option ℕ) (e : Bool) (w : List ℕ) → left_length (bare_back 44 quote e w) < length w + 1
back_shorter quote e [] = omega arith
back_shorter quote e (b ∷ bs) =
    step_shorter (cuts 44 quote e b) b bs (bare_back 44 (quote_after quote e b) (escapes e b) bs) (back_shorter (quote_after quote e b) (escapes e b) bs)
