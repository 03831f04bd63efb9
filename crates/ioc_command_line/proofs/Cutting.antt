-- Words are cut into definitions.
use Rattle.std.proofs.Common.{◌≡◌, ℕ, ◌<◌, ◌+◌, Bool, true, false, cond, List, [], ◌∷◌, ◌++◌, length, Option, Some, None, refl, sym, ap, ◌∙◌, arith}
use Rattle.std.specs.Prelude.{option_map, option_and_then}
use Rattle.std.specs.Borrow.{Bor}
use Rattle.std.specs.List.{onto_first}
use Rattle.ioc_dblex.specs.Macros.{Defined}
use Rattle.ioc_command_line.specs.Definitions.{definition_of, ends, first_piece, behind_piece, pieces, defined_by, all_defined}

-- The definitions of what is left of a word.
abbrev pub left_in : Option (List ℕ) → List (List ℕ)
left_in None = []
left_in (Some bytes) = pieces bytes

abbrev pub bytes_left : Option (Bor (List ℕ)) → Option (List ℕ)
bytes_left = option_map (λ r. r.now)

-- How much of the word is left.
abbrev pub left_length : Option (List ℕ) → ℕ
left_length None = 0
left_length (Some bytes) = length bytes + 1

step_pieces : (c : Bool) (b : ℕ) (bs : List ℕ) → pieces bs ≡ first_piece bs ∷ left_in (behind_piece bs)
    → cond c ([] ∷ pieces bs) (onto_first b (pieces bs)) ≡ cond c [] (b ∷ first_piece bs) ∷ left_in (cond c (Some bs) (behind_piece bs))
step_pieces true b bs ih = refl
step_pieces false b bs ih = ap (onto_first b) ih

-- A word is its first definition and what is behind the comma.
pub pieces_cut : (w : List ℕ) → pieces w ≡ first_piece w ∷ left_in (behind_piece w)
pieces_cut [] = refl
pieces_cut (b ∷ bs) = step_pieces (ends b bs) b bs (pieces_cut bs)

step_shorter : (c : Bool) (b : ℕ) (bs : List ℕ) → left_length (behind_piece bs) < length bs + 1 → left_length (cond c (Some bs) (behind_piece bs)) < length (b ∷ bs) + 1
step_shorter true b bs ih = omega arith
step_shorter false b bs ih = omega (arith, ih)

-- Less is left behind the comma.
pub behind_shorter : (w : List ℕ) → left_length (behind_piece w) < length w + 1
behind_shorter [] = omega arith
behind_shorter (b ∷ bs) = step_shorter (ends b bs) b bs (behind_shorter bs)

-- The first definition of a word defines a macro.
pub defines_first : (ds : List Defined) (w piece : List ℕ) (behind : Option (List ℕ)) (d : Defined) → piece ≡ first_piece w → behind ≡ behind_piece w → Some d ≡ definition_of piece
    → defined_by ds (pieces w) ≡ defined_by (ds ++ d ∷ []) (left_in behind)
defines_first ds w piece behind d front back is =
    ap (defined_by ds) (pieces_cut w)
    ∙ ap (λ (p : List ℕ). option_and_then (λ e. defined_by (ds ++ e ∷ []) (left_in (behind_piece w))) (definition_of p)) (sym front)
    ∙ ap (λ (o : Option Defined). option_and_then (λ e. defined_by (ds ++ e ∷ []) (left_in (behind_piece w))) o) (sym is)
    ∙ ap (λ (o : Option (List ℕ)). defined_by (ds ++ d ∷ []) (left_in o)) (sym back)

-- It defines none.
pub defines_none : (ds : List Defined) (w piece : List ℕ) → piece ≡ first_piece w → None ≡ definition_of piece → defined_by ds (pieces w) ≡ None
defines_none ds w piece front is =
    ap (defined_by ds) (pieces_cut w)
    ∙ ap (λ (p : List ℕ). option_and_then (λ e. defined_by (ds ++ e ∷ []) (left_in (behind_piece w))) (definition_of p)) (sym front)
    ∙ ap (λ (o : Option Defined). option_and_then (λ e. defined_by (ds ++ e ∷ []) (left_in (behind_piece w))) o) (sym is)

-- A word defines macros, and others follow.
pub word_more : (ds more : List Defined) (w : List ℕ) (ws : List (List ℕ)) → defined_by ds (pieces w) ≡ Some more → all_defined ds (w ∷ ws) ≡ all_defined more ws
word_more ds more w ws is = ap (option_and_then (λ m. all_defined m ws)) is

pub word_none : (ds : List Defined) (w : List ℕ) (ws : List (List ℕ)) → defined_by ds (pieces w) ≡ None → all_defined ds (w ∷ ws) ≡ None
word_none ds w ws is = ap (option_and_then (λ m. all_defined m ws)) is

step_both : (o : Option (List Defined)) (ws ys : List (List ℕ)) (more : List Defined) → option_and_then (λ m. all_defined m ws) o ≡ Some more
    → ((m : List Defined) → all_defined m ws ≡ Some more → all_defined m (ws ++ ys) ≡ all_defined more ys)
    → option_and_then (λ m. all_defined m (ws ++ ys)) o ≡ all_defined more ys
step_both None ws ys more is ih = absurd cc
step_both (Some m) ws ys more is ih = ih m is

-- Words are followed by others.
pub defined_both : (ds more : List Defined) (xs ys : List (List ℕ)) → all_defined ds xs ≡ Some more → all_defined ds (xs ++ ys) ≡ all_defined more ys
defined_both ds more [] ys is = let same : ds ≡ more = cc in ap (λ (m : List Defined). all_defined m ys) same
defined_both ds more (w ∷ ws) ys is = step_both (defined_by ds (pieces w)) ws ys more is (λ m e. defined_both m more ws ys e)

step_none : (o : Option (List Defined)) (ws ys : List (List ℕ)) → option_and_then (λ m. all_defined m ws) o ≡ None
    → ((m : List Defined) → all_defined m ws ≡ None → all_defined m (ws ++ ys) ≡ None)
    → option_and_then (λ m. all_defined m (ws ++ ys)) o ≡ None
step_none None ws ys is ih = refl
step_none (Some m) ws ys is ih = ih m is

pub none_of_both : (ds : List Defined) (xs ys : List (List ℕ)) → all_defined ds xs ≡ None → all_defined ds (xs ++ ys) ≡ None
none_of_both ds [] ys is = absurd cc
none_of_both ds (w ∷ ws) ys is = step_none (defined_by ds (pieces w)) ws ys is (λ m e. none_of_both m ws ys e)
