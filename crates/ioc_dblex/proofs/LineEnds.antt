-- The end of a line.
use Rattle.std.proofs.Common.{◌≡◌, ℕ, zero, suc, ◌+◌, ◌-◌, ◌≤◌, ◌<◌, Bool, true, false, cond, ◌&&◌, eqb, List, [], ◌∷◌, length, take, drop, slice_index, slice_index_or, refl, sym, ap, ◌∙◌, inl, inr, arith}
use Rattle.std.proofs.lemmas.Bool.{cases_Bool, eqb-true, eqb-false, ltb-true, lt-ltb}
use Rattle.ioc_dblex.specs.Macros.{back_of, lacks}
use Rattle.ioc_dblex.specs.declared.lines.Quoting.{Quoting}
use Rattle.ioc_dblex.specs.declared.lines.Quoting.TheVariants.{Outside, Inside, Escaped}
use Rattle.ioc_dblex.specs.Lines.{begins_comment, quoting_after, uncommented, stands, without_end}
use Rattle.ioc_dblex.proofs.LineLemmas.{first_line, behind_line}
use Rattle.ioc_dblex.proofs.Searching.{NoneTo, first_other, others_none}
use Rattle.ioc_dblex.proofs.Pieces.{lacks_first}

-- ---- The first line feed

pub first_at : (bs : List ℕ) (k : ℕ) → k < length bs → NoneTo 10 bs k → eqb (slice_index bs k) 10 ≡ true → take (k + 1) bs ≡ first_line bs
first_at [] k lt none is = absurd (omega arith)
first_at (b ∷ bs) zero lt none is = let here : eqb b 10 ≡ true = is in rw here refl
first_at (b ∷ bs) (suc k) lt none is =
    let behind : k < length bs = omega arith in
    let one : suc k + 1 ≡ suc (k + 1) = omega arith in
    rw (one, first_other 10 b bs k none) (ap (λ (l : List ℕ). b ∷ l) (first_at bs k behind (others_none 10 b bs k none) is))

pub behind_at : (bs : List ℕ) (k : ℕ) → k < length bs → NoneTo 10 bs k → eqb (slice_index bs k) 10 ≡ true → drop (k + 1) bs ≡ behind_line bs
behind_at [] k lt none is = absurd (omega arith)
behind_at (b ∷ bs) zero lt none is = let here : eqb b 10 ≡ true = is in rw here refl
behind_at (b ∷ bs) (suc k) lt none is =
    let behind : k < length bs = omega arith in
    let one : suc k + 1 ≡ suc (k + 1) = omega arith in
    rw (one, first_other 10 b bs k none) (behind_at bs k behind (others_none 10 b bs k none) is)

pub all_first : (bs : List ℕ) → NoneTo 10 bs (length bs) → bs ≡ first_line bs
all_first [] none = refl
all_first (b ∷ bs) none = rw (first_other 10 b bs (length bs) none) (ap (λ (l : List ℕ). b ∷ l) (all_first bs (others_none 10 b bs (length bs) none)))

pub none_behind : (bs : List ℕ) → NoneTo 10 bs (length bs) → [] ≡ behind_line bs
none_behind [] none = refl
none_behind (b ∷ bs) none = rw (first_other 10 b bs (length bs) none) (none_behind bs (others_none 10 b bs (length bs) none))

-- A first line has no byte after its line feed.
pub one_line_feed : (bs : List ℕ) → length (back_of 10 (first_line bs)) ≤ 1
one_line_feed [] = omega arith
one_line_feed (b ∷ bs) =
    let behind : length (back_of 10 (first_line bs)) ≤ 1 = one_line_feed bs in
    elim (cases_Bool (eqb b 10)) [ inl is ↦ rw is (rw is (omega arith)) | inr is ↦ rw is (rw is behind) ]

-- ---- The end of a line

-- The bytes after the first one have at most one byte from a line feed on, too.
back_other : (b c : ℕ) (cs : List ℕ) → length (back_of 10 (b ∷ c ∷ cs)) ≤ 1 → (eqb b 10 ≡ false) × (length (back_of 10 (c ∷ cs)) ≤ 1)
back_other b c cs h = by_test (eqb b 10) refl h
  where
    by_test : (t : Bool) → eqb b 10 ≡ t → length (cond t (b ∷ c ∷ cs) (back_of 10 (c ∷ cs))) ≤ 1 → (eqb b 10 ≡ false) × (length (back_of 10 (c ∷ cs)) ≤ 1)
    by_test true is g = absurd (omega arith)
    by_test false is g = (is, g)

never : (t : Bool) → (t && false) ≡ false
never true = refl
never false = refl

-- A byte with two others after it isn't part of the line end.
stays : (b c d : ℕ) (ds : List ℕ) → length (back_of 10 (b ∷ c ∷ d ∷ ds)) ≤ 1 → without_end (b ∷ c ∷ d ∷ ds) ≡ b ∷ without_end (c ∷ d ∷ ds)
stays b c d ds h =
    let first = back_other b c (d ∷ ds) h in
    let second = back_other c d ds first.1 in
    rw (first.0, second.0, never (eqb b 13)) refl

pub ends_two : (line : List ℕ) → length (back_of 10 line) ≤ 1 → 2 ≤ length line → slice_index_or line (length line - 1) 0 ≡ 10 → slice_index_or line (length line - 2) 0 ≡ 13 → take (length line - 2) line ≡ without_end line
ends_two [] h some last before = absurd (omega arith)
ends_two (b ∷ []) h some last before = absurd (omega arith)
ends_two (b ∷ c ∷ []) h some last before =
    let feed : c ≡ 10 = last in
    let return : b ≡ 13 = before in
    rw (feed, return) refl
ends_two (b ∷ c ∷ d ∷ ds) h some last before =
    let rest = c ∷ d ∷ ds in
    let one : length (b ∷ rest) - 1 ≡ suc (length rest - 1) = omega arith in
    let two : length (b ∷ rest) - 2 ≡ suc (length rest - 2) = omega arith in
    let others = ends_two (c ∷ d ∷ ds) (back_other b c (d ∷ ds) h).1 (omega arith) (rw one at last) (rw two at before) in
    rw (two, stays b c d ds h) (ap (λ (l : List ℕ). b ∷ l) others)

pub ends_one : (line : List ℕ) → length (back_of 10 line) ≤ 1 → 1 ≤ length line → slice_index_or line (length line - 1) 0 ≡ 10 → (2 ≤ length line → slice_index_or line (length line - 2) 0 ≡ 13 → ⊥) → take (length line - 1) line ≡ without_end line
ends_one [] h some last other = absurd (omega arith)
ends_one (b ∷ []) h some last other = let feed : b ≡ 10 = last in rw feed refl
ends_one (b ∷ c ∷ []) h some last other =
    let feed : c ≡ 10 = last in
    let first : eqb b 10 ≡ false = (back_other b c [] h).0 in
    elim (cases_Bool (eqb b 13)) [
      | inl is ↦ absurd (other (omega arith) (eqb-true b 13 is))
      | inr is ↦ rw (first, is, feed) refl
    ]
ends_one (b ∷ c ∷ d ∷ ds) h some last other =
    let rest = c ∷ d ∷ ds in
    let one : length (b ∷ rest) - 1 ≡ suc (length rest - 1) = omega arith in
    let two : length (b ∷ rest) - 2 ≡ suc (length rest - 2) = omega arith in
    let others = ends_one (c ∷ d ∷ ds) (back_other b c (d ∷ ds) h).1 (omega arith) (rw one at last) (λ lt e. other (omega arith) (rw two e)) in
    rw (one, stays b c d ds h) (ap (λ (l : List ℕ). b ∷ l) others)

pub ends_none : (line : List ℕ) → length (back_of 10 line) ≤ 1 → (1 ≤ length line → slice_index_or line (length line - 1) 0 ≡ 10 → ⊥) → line ≡ without_end line
ends_none [] h other = refl
ends_none (b ∷ []) h other =
    elim (cases_Bool (eqb b 10)) [
      | inl is ↦ absurd (other (omega arith) (eqb-true b 10 is))
      | inr is ↦ rw (is, never (eqb b 13)) refl
    ]
ends_none (b ∷ c ∷ []) h other =
    let first : eqb b 10 ≡ false = (back_other b c [] h).0 in
    elim (cases_Bool (eqb c 10)) [
      | inl is ↦ absurd (other (omega arith) (eqb-true c 10 is))
      | inr is ↦ rw (first, is, never (eqb b 13), never (eqb c 13)) refl
    ]
ends_none (b ∷ c ∷ d ∷ ds) h other =
    let rest = c ∷ d ∷ ds in
    let one : length (b ∷ rest) - 1 ≡ suc (length rest - 1) = omega arith in
    let others = ends_none (c ∷ d ∷ ds) (back_other b c (d ∷ ds) h).1 (λ lt e. other (omega arith) (rw one e)) in
    rw (stays b c d ds h) (ap (λ (l : List ℕ). b ∷ l) others)

and_parts : (s t : Bool) → (s && t) ≡ true → (s ≡ true) × (t ≡ true)
and_parts true t h = (refl, h)
and_parts false t h = let clash : false ≡ true = h in cc

both_true : (s t : Bool) → s ≡ true → t ≡ true → (s && t) ≡ false → ⊥
both_true s t h k e = let one : (s && t) ≡ true = rw (h, k) refl in let clash : true ≡ false = sym one ∙ e in cc

eqb-same : (n : ℕ) → eqb n n ≡ true
eqb-same n = elim (cases_Bool (eqb n n)) [ inl is ↦ is | inr other ↦ absurd (eqb-false n n other refl) ]

stands_true : (c before : ℕ) (bs : List ℕ) → stands c before bs ≡ true → (before < length bs) × (slice_index_or bs (length bs - before - 1) 0 ≡ c)
stands_true c before bs h = let k = and_parts _ _ h in (ltb-true before (length bs) k.0, eqb-true _ c k.1)

stands_false : (c before : ℕ) (bs : List ℕ) → stands c before bs ≡ false → before < length bs → slice_index_or bs (length bs - before - 1) 0 ≡ c → ⊥
stands_false c before bs h lt e = both_true _ _ (lt-ltb before (length bs) lt) (rw e (eqb-same c)) h

pub line_none : (line : List ℕ) → length (back_of 10 line) ≤ 1 → stands 10 0 line ≡ false → line ≡ without_end line
line_none line h s = ends_none line h (λ lt e. let place : length line - 0 - 1 ≡ length line - 1 = omega arith in stands_false 10 0 line s (omega arith) (rw place e))

pub line_two : (line : List ℕ) → length (back_of 10 line) ≤ 1 → stands 10 0 line ≡ true → stands 13 1 line ≡ true → take (length line - 2) line ≡ without_end line
line_two line h s t =
    let last = stands_true 10 0 line s in
    let before = stands_true 13 1 line t in
    let one : length line - 0 - 1 ≡ length line - 1 = omega arith in
    let two : length line - 1 - 1 ≡ length line - 2 = omega arith in
    ends_two line h (omega (arith, before.0)) (rw one at last.1) (rw two at before.1)

pub line_one : (line : List ℕ) → length (back_of 10 line) ≤ 1 → stands 10 0 line ≡ true → stands 13 1 line ≡ false → take (length line - 1) line ≡ without_end line
line_one line h s t =
    let last = stands_true 10 0 line s in
    let one : length line - 0 - 1 ≡ length line - 1 = omega arith in
    let two : length line - 1 - 1 ≡ length line - 2 = omega arith in
    ends_one line h (omega (arith, last.0)) (rw one at last.1) (λ lt e. stands_false 13 1 line t (omega arith) (rw two e))

pub has_last : (c before : ℕ) (line : List ℕ) → stands c before line ≡ true → before < length line
has_last c before line s = (stands_true c before line s).0

-- ---- A line without a number sign

pub no_comment : (quoting : Quoting) (bs : List ℕ) → lacks 35 bs ≡ true → bs ≡ uncommented quoting bs
unfolding begins_comment
no_comment quoting [] h = refl
no_comment Outside (b ∷ bs) h = let k = lacks_first 35 b bs h in rw k.0 (ap (λ (l : List ℕ). b ∷ l) (no_comment (quoting_after Outside b) bs k.1))
no_comment Inside (b ∷ bs) h = let k = lacks_first 35 b bs h in ap (λ (l : List ℕ). b ∷ l) (no_comment (quoting_after Inside b) bs k.1)
no_comment Escaped (b ∷ bs) h = let k = lacks_first 35 b bs h in ap (λ (l : List ℕ). b ∷ l) (no_comment (quoting_after Escaped b) bs k.1)
