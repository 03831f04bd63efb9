-- The last line stands at the end of a text.
use Rattle.std.proofs.Common.{◌≡◌, ℕ, Bool, true, false, cond, eqb, List, [], ◌∷◌, ◌++◌, inl, inr, refl, ap, ◌∙◌}
use Rattle.std.specs.Prelude.{codes}
use Rattle.std.specs.Cmp.Lexicographic.{bytes_decides}
use Rattle.std.proofs.lemmas.Bool.{cases_Bool, eqb-true, and_parts}
use Rattle.ioc_saved.specs.Words.{lacks, before, behind, onto_first, lines_of, no_lines, last_of, ends_line}
use Rattle.ioc_saved.specs.Files.{is_whole, EndsWell}
use Rattle.ioc_saved.proofs.Cuts.{last_lacks, lines_split, has_lines}

-- A text with a line feed is its first line, a line feed and the rest.
split_back : (w : List ℕ) → lacks 10 w ≡ false → w ≡ before 10 w ++ 10 ∷ behind 10 w
split_back [] h = absurd cc
split_back (b ∷ bs) h =
    elim (cases_Bool (eqb b 10)) [
      | inl is ↦ let e = eqb-true b 10 is in rw is (ap (λ (n : ℕ). n ∷ bs) e)
      | inr other ↦ let k : lacks 10 bs ≡ false = rw other at h in rw other (ap (λ (l : List ℕ). b ∷ l) (split_back bs k))
    ]

has_feed : (bytes : List ℕ) → ends_line bytes ≡ true → lacks 10 bytes ≡ false
has_feed bytes h =
    elim (cases_Bool (lacks 10 bytes)) [
      | inl is ↦ let k = last_lacks bytes is in absurd cc
      | inr other ↦ other
    ]

no_bytes : (bytes : List ℕ) → no_lines (lines_of bytes) ≡ true → bytes ≡ []
no_bytes [] h = refl
no_bytes (b ∷ bs) h = let k = has_lines b bs in absurd cc

abbrev At_end : List ℕ → List ℕ → Type 0
At_end text line = (front : List ℕ) × (text ≡ front ++ (line ++ 10 ∷ []))

longer : (b : ℕ) (text line : List ℕ) → At_end text line → At_end (b ∷ text) line
longer b text line h = (b ∷ h.0, ap (λ (l : List ℕ). b ∷ l) h.1)

-- The only line.
only : (b c : ℕ) (cs : List ℕ) → ends_line (c ∷ cs) ≡ true → no_lines (lines_of (behind 10 (c ∷ cs))) ≡ true → At_end (b ∷ c ∷ cs) (b ∷ before 10 (c ∷ cs))
only b c cs ends h =
    let none = no_bytes (behind 10 (c ∷ cs)) h in
    let e : c ∷ cs ≡ before 10 (c ∷ cs) ++ 10 ∷ [] = split_back (c ∷ cs) (has_feed (c ∷ cs) ends) ∙ ap (λ (l : List ℕ). before 10 (c ∷ cs) ++ 10 ∷ l) none in
    ([], ap (λ (l : List ℕ). b ∷ l) e)

further : (b c : ℕ) (cs : List ℕ) → ends_line (c ∷ cs) ≡ true → eqb b 10 ≡ false → At_end (c ∷ cs) (last_of (lines_of (c ∷ cs))) → At_end (b ∷ c ∷ cs) (last_of (onto_first b (lines_of (c ∷ cs))))
further b c cs ends other h =
    let first = before 10 (c ∷ cs) in
    let rest = lines_of (behind 10 (c ∷ cs)) in
    let lines : lines_of (c ∷ cs) ≡ first ∷ rest = lines_split c cs in
    elim (cases_Bool (no_lines rest)) [
      | inl none ↦
          let e : last_of (onto_first b (lines_of (c ∷ cs))) ≡ b ∷ first = ap (λ (l : List (List ℕ)). last_of (onto_first b l)) lines ∙ ap (λ (k : Bool). cond k (b ∷ first) (last_of rest)) none in
          rw e (only b c cs ends none)
      | inr some ↦
          let e : last_of (onto_first b (lines_of (c ∷ cs))) ≡ last_of rest = ap (λ (l : List (List ℕ)). last_of (onto_first b l)) lines ∙ ap (λ (k : Bool). cond k (b ∷ first) (last_of rest)) some in
          let f : last_of (lines_of (c ∷ cs)) ≡ last_of rest = ap last_of lines ∙ ap (λ (k : Bool). cond k first (last_of rest)) some in
          rw e (longer b (c ∷ cs) (last_of rest) (rw f at h))
    ]

last_at : (b : ℕ) (bs : List ℕ) → ends_line (b ∷ bs) ≡ true → At_end (b ∷ bs) (last_of (lines_of (b ∷ bs)))
last_at b [] ends = let e = eqb-true b 10 ends in rw e ([], refl)
last_at b (c ∷ cs) ends =
    elim (cases_Bool (eqb b 10)) [
      | inl is ↦ rw (is, has_lines c cs) (longer b (c ∷ cs) (last_of (lines_of (c ∷ cs))) (last_at c cs ends))
      | inr other ↦ rw other (further b c cs ends other (last_at c cs ends))
    ]

pub ends_well : (text : List ℕ) → is_whole text ≡ true → EndsWell text
ends_well [] h = absurd cc
ends_well (b ∷ bs) h =
    let p = and_parts (ends_line (b ∷ bs)) _ h in
    let e : last_of (lines_of (b ∷ bs)) ≡ codes "<END>" = (bytes_decides (last_of (lines_of (b ∷ bs))) (codes "<END>")).0 p.1 in
    let at = last_at b bs p.0 in
    (at.0, at.1 ∙ ap (λ (l : List ℕ). at.0 ++ (l ++ 10 ∷ [])) e)
