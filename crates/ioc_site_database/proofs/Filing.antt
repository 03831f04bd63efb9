-- Words are cut into definitions, and files hold them.
use Rattle.std.proofs.Common.{◌≡◌, ℕ, ◌<◌, ◌+◌, ◌==◌, Bool, true, false, cond, List, [], ◌∷◌, ◌++◌, length, Option, Some, None, refl, ap, ◌∙◌, arith}
use Rattle.std.specs.Prelude.{option_map}
use Rattle.std.specs.Borrow.{Bor}
use Rattle.std.specs.List.{onto_first}
use Rattle.ioc_dblex.specs.Macros.{Defined, front_of, back_of, behind_first}
use Rattle.ioc_site_lines.specs.Defining.{definitions_of}
use Rattle.ioc_site_database.specs.SiteFiles.{words_defined, zero_parts}

abbrev pub bytes_left : Option (Bor (List ℕ)) → Option (List ℕ)
bytes_left = option_map (λ r. r.now)

-- How much of a text is left.
abbrev pub left_length : Option (List ℕ) → ℕ
left_length None = 0
left_length (Some bytes) = length bytes + 1

-- The words of what is left.
abbrev pub words_left : Option (List ℕ) → List (List ℕ)
words_left None = []
words_left (Some bytes) = zero_parts bytes

step_parts : (c : Bool) (b : ℕ) (bs front back : List ℕ) (others : List (List ℕ)) → others ≡ front ∷ words_left (behind_first back)
    → cond c ([] ∷ zero_parts bs) (onto_first b others) ≡ cond c [] (b ∷ front) ∷ words_left (behind_first (cond c (b ∷ bs) back))
step_parts true b bs front back others ih = refl
step_parts false b bs front back others ih = ap (onto_first b) ih

-- A text is its first word and what is behind the byte 0.
pub parts_cut : (w : List ℕ) → zero_parts w ≡ front_of 0 w ∷ words_left (behind_first (back_of 0 w))
parts_cut [] = refl
parts_cut (b ∷ bs) = step_parts (b == 0) b bs (front_of 0 bs) (back_of 0 bs) (zero_parts bs) (parts_cut bs)

-- The macros of a text are those of its first word, and those behind it.
pub defined_cut : (w : List ℕ) → words_defined (zero_parts w) ≡ definitions_of (front_of 0 w) ++ words_defined (words_left (behind_first (back_of 0 w)))
defined_cut w = ap words_defined (parts_cut w)

step_shorter : (c : Bool) (b : ℕ) (bs back : List ℕ) → left_length (behind_first back) < length bs + 1
    → left_length (behind_first (cond c (b ∷ bs) back)) < length (b ∷ bs) + 1
step_shorter true b bs back ih = omega arith
step_shorter false b bs back ih = omega (arith, ih)

-- Less is left behind the byte 0.
pub back_shorter : (w : List ℕ) → left_length (behind_first (back_of 0 w)) < length w + 1
back_shorter [] = omega arith
back_shorter (b ∷ bs) = step_shorter (b == 0) b bs (back_of 0 bs) (back_shorter bs)
