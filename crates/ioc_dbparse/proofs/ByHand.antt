-- Macros that are replaced by hand.
use Rattle.std.proofs.Common.{◌≡◌, ℕ, ◌+◌, ◌-◌, ◌≤◌, false, eqb, nat_lt, List, [], ◌∷◌, length, refl, ap, arith, inl, inr, le-ltb}
use Rattle.std.specs.List.{onto_first}
use Rattle.std.proofs.lemmas.Bool.{cases_Bool}
use Rattle.ioc_dblex.specs.Macros.{Defined}
use Rattle.ioc_dblex.specs.Lines.{lines_of, line_text}
use Rattle.ioc_dblex.specs.Texts.{onto_texts, expansion, most_bytes}
use Rattle.ioc_dbparse.specs.Rules.{Rules}
use Rattle.ioc_dbparse.specs.Loading.{filled_by_texts, filled_by}
use Rattle.ioc_dbparse.specs.Laws.{SameTexts}

-- The number of bytes of lines.
abbrev total : List (List ℕ) → ℕ
total [] = 0
total (l ∷ ls) = length l + total ls

onto_total : (b : ℕ) (ls : List (List ℕ)) → total (onto_first b ls) ≡ total ls + 1
onto_total b [] = omega arith
onto_total b (l ∷ ls) = omega arith

lines_total : (text : List ℕ) → total (lines_of text) ≡ length text
lines_total [] = refl
lines_total (b ∷ bs) =
    let behind : total (lines_of bs) ≡ length bs = lines_total bs in
    elim (cases_Bool (eqb b 10)) [ inl is ↦ rw is (omega arith) | inr is ↦ rw is (omega (arith, onto_total b (lines_of bs))) ]

-- Lines that may all be read have equal texts.
same_texts : (macros : List Defined) (room more : ℕ) (ls hs : List (List ℕ)) → total ls ≤ room → total hs ≤ more → SameTexts macros ls hs → expansion macros room ls ≡ expansion [] more hs
same_texts macros room more [] [] a b h = refl
same_texts macros room more [] (x ∷ xs) a b h = absurd h
same_texts macros room more (l ∷ ls) [] a b h = absurd h
same_texts macros room more (l ∷ ls) (x ∷ xs) a b h =
    let first : nat_lt room (length l) ≡ false = le-ltb room (length l) (omega arith) in
    let other : nat_lt more (length x) ≡ false = le-ltb more (length x) (omega arith) in
    let behind = same_texts macros (room - length l) (more - length x) ls xs (omega arith) (omega arith) h.1 in
    rw (first, other, h.0) (ap (onto_texts (line_text [] x)) behind)

-- A text whose macros are replaced by hand has the same result.
pub macros_by_hand : {S : Type 0} (rules : Rules S) (s : S) (macros : List Defined) (text hand : List ℕ) → length text ≤ most_bytes → length hand ≤ most_bytes → SameTexts macros (lines_of text) (lines_of hand) → filled_by rules s macros text ≡ filled_by rules s [] hand
unfolding filled_by
macros_by_hand rules s macros text hand a b h =
    ap (filled_by_texts rules s) (same_texts macros most_bytes most_bytes (lines_of text) (lines_of hand) (omega (arith, lines_total text)) (omega (arith, lines_total hand)) h)
