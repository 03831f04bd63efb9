-- A piece of a script is cut at its first line feed.
use Rattle.std.proofs.Common.{◌≡◌, ℕ, ◌<◌, Bool, true, false, cond, eqb, List, [], ◌∷◌, ◌++◌, length, Option, Some, None, refl, sym, ap, ◌∙◌, append_assoc, append-nil, arith}
use Rattle.std.proofs.lemmas.Bool.{eqb-true}
use Rattle.std.specs.Prelude.{option_map}
use Rattle.std.specs.Borrow.{Bor}
use Rattle.std.specs.List.{onto_first}
use Rattle.ioc_commands.specs.Commands.{lines_of, before, behind}
use Rattle.ioc_main.specs.Coming.{onto}

step_shorter : (c : Bool) (s b : ℕ) (bs after : List ℕ) → cond c (Some bs) (behind s bs) ≡ Some after → (behind s bs ≡ Some after → length after < length bs) → length after < length (b ∷ bs)
step_shorter true s b bs after e ih = let same : bs ≡ after = cc in rw same (omega arith)
step_shorter false s b bs after e ih = omega (arith, ih e)

-- The rest behind the separator is shorter.
pub behind-shorter : (s : ℕ) (bs after : List ℕ) → behind s bs ≡ Some after → length after < length bs
behind-shorter s [] after e = absurd cc
behind-shorter s (b ∷ bs) after e = step_shorter (eqb b s) s b bs after e (behind-shorter s bs after)

-- A list of length 0 is empty.
pub none-left : (bs : List ℕ) → eqb (length bs) 0 ≡ true → bs ≡ []
none-left [] e = refl
none-left (b ∷ bs) e = absurd (omega (arith, eqb-true (length (b ∷ bs)) 0 e))

-- A missing part is missing in the specification too.
pub none-there : (o : Option (Bor (List ℕ))) → ((r : Bor (List ℕ)) → o ≡ Some r → ⊥) → option_map (λ r. r.now) o ≡ None
none-there None other = refl
none-there (Some r) other = absurd (other r refl)

step_before : (c : Bool) (s b : ℕ) (bs : List ℕ) → cond c (Some bs) (behind s bs) ≡ None → (behind s bs ≡ None → before s bs ≡ bs) → cond c [] (b ∷ before s bs) ≡ b ∷ bs
step_before true s b bs e ih = absurd cc
step_before false s b bs e ih = ap (λ (l : List ℕ). b ∷ l) (ih e)

-- If nothing is behind the separator, all is before it.
pub all-before : (s : ℕ) (bs : List ℕ) → behind s bs ≡ None → before s bs ≡ bs
all-before s [] e = refl
all-before s (b ∷ bs) e = step_before (eqb b s) s b bs e (all-before s bs)

step_lines : (c : Bool) (b : ℕ) (bs after rest : List ℕ) → cond c (Some bs) (behind 10 bs) ≡ Some after
    → (behind 10 bs ≡ Some after → lines_of (bs ++ rest) ≡ before 10 bs ∷ lines_of (after ++ rest))
    → cond c ([] ∷ lines_of (bs ++ rest)) (onto_first b (lines_of (bs ++ rest))) ≡ cond c [] (b ∷ before 10 bs) ∷ lines_of (after ++ rest)
step_lines true b bs after rest e ih = let same : bs ≡ after = cc in ap (λ (l : List ℕ). [] ∷ lines_of (l ++ rest)) same
step_lines false b bs after rest e ih = ap (onto_first b) (ih e)

-- A line ends in the piece.
pub behind-lines : (bs after rest : List ℕ) → behind 10 bs ≡ Some after → lines_of (bs ++ rest) ≡ before 10 bs ∷ lines_of (after ++ rest)
behind-lines [] after rest e = absurd cc
behind-lines (b ∷ bs) after rest e = step_lines (eqb b 10) b bs after rest e (behind-lines bs after rest)

onto_first-onto : (b : ℕ) (bs : List ℕ) (ls : List (List ℕ)) → onto_first b (onto bs ls) ≡ onto (b ∷ bs) ls
onto_first-onto b [] [] = refl
onto_first-onto b (c ∷ cs) [] = refl
onto_first-onto b bs (l ∷ ls) = refl

step_none : (c : Bool) (b : ℕ) (bs rest : List ℕ) → cond c (Some bs) (behind 10 bs) ≡ None → (behind 10 bs ≡ None → lines_of (bs ++ rest) ≡ onto bs (lines_of rest))
    → cond c ([] ∷ lines_of (bs ++ rest)) (onto_first b (lines_of (bs ++ rest))) ≡ onto (b ∷ bs) (lines_of rest)
step_none true b bs rest e ih = absurd cc
step_none false b bs rest e ih = ap (onto_first b) (ih e) ∙ onto_first-onto b bs (lines_of rest)

pub onto-nil : (ls : List (List ℕ)) → onto [] ls ≡ ls
onto-nil [] = refl
onto-nil (l ∷ ls) = refl

-- No line ends in the piece.
pub none-behind : (bs rest : List ℕ) → behind 10 bs ≡ None → lines_of (bs ++ rest) ≡ onto bs (lines_of rest)
none-behind [] rest e = sym (onto-nil (lines_of rest))
none-behind (b ∷ bs) rest e = step_none (eqb b 10) b bs rest e (none-behind bs rest)

pub onto-onto : (p bs : List ℕ) (ls : List (List ℕ)) → onto p (onto bs ls) ≡ onto (p ++ bs) ls
onto-onto [] bs ls = onto-nil (onto bs ls)
onto-onto (c ∷ cs) [] [] = ap (λ (l : List ℕ). (c ∷ l) ∷ []) (sym (append-nil cs))
onto-onto (c ∷ cs) (d ∷ ds) [] = refl
onto-onto p bs (l ∷ ls) = ap (λ (x : List ℕ). x ∷ ls) (sym (append_assoc p bs l))
