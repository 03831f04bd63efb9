-- Pieces split off from a text, as slices.
use Rattle.std.proofs.Common.{◌≡◌, ℕ, zero, suc, ◌+◌, ◌-◌, ◌≤◌, ◌<◌, Bool, true, false, cond, ◌&&◌, eqb, List, [], ◌∷◌, length, take, drop, slice_index_or, Option, Some, None, Bor, refl, sym, ap, ◌∙◌, arith, inl, inr, length-drop}
use Rattle.std.proofs.Math.Seq.{take-length}
use Rattle.std.proofs.lemmas.Bool.{cases_Bool}
use Rattle.ioc_dblex.specs.Macros.{Defined, front_of, back_of, lacks, opens_macro, onto_text, used, closing_of, use_at, replaced}
use Rattle.ioc_dblex.specs.SeenMacros.{UseSo, PieceSo}
use Rattle.ioc_dblex.proofs.Replacing.{use_piece, no_piece, run_piece, plain_same}

-- All bytes but the first.
abbrev pub tail : List ℕ → List ℕ
tail bs = take (length bs - 1) (drop 1 bs)

tail_is : (b : ℕ) (bs : List ℕ) → tail (b ∷ bs) ≡ bs
tail_is b bs =
    let size : length (b ∷ bs) - 1 ≡ length bs = omega arith in
    rw size (take-length bs)

front_le : (c : ℕ) (bs : List ℕ) → length (front_of c bs) ≤ length bs
front_le c [] = omega arith
front_le c (b ∷ bs) =
    let behind : length (front_of c bs) ≤ length bs = front_le c bs in
    elim (cases_Bool (eqb b c)) [ inl is ↦ rw is (omega arith) | inr is ↦ rw is (omega arith) ]

back_le : (c : ℕ) (bs : List ℕ) → length (back_of c bs) ≤ length bs
back_le c [] = omega arith
back_le c (b ∷ bs) =
    let behind : length (back_of c bs) ≤ length bs = back_le c bs in
    elim (cases_Bool (eqb b c)) [ inl is ↦ rw is (omega arith) | inr is ↦ rw is (omega arith) ]

front_take : (c : ℕ) (bs : List ℕ) → take (length (front_of c bs)) bs ≡ front_of c bs
front_take c [] = refl
front_take c (b ∷ bs) = elim (cases_Bool (eqb b c)) [ inl is ↦ rw is refl | inr is ↦ rw is (ap (λ (l : List ℕ). b ∷ l) (front_take c bs)) ]

front_drop : (c : ℕ) (bs : List ℕ) → drop (length (front_of c bs)) bs ≡ back_of c bs
front_drop c [] = refl
front_drop c (b ∷ bs) = elim (cases_Bool (eqb b c)) [ inl is ↦ rw is refl | inr is ↦ rw is (front_drop c bs) ]

drop_one : (n : ℕ) (bs : List ℕ) → drop (suc n) bs ≡ drop 1 (drop n bs)
drop_one zero bs = refl
drop_one (suc n) [] = refl
drop_one (suc n) (b ∷ bs) = drop_one n bs

tail_drop : (bs : List ℕ) → tail bs ≡ drop 1 bs
tail_drop [] = refl
tail_drop (b ∷ bs) = tail_is b bs

-- ---- A macro

pub use_so : (ds : List Defined) (text : List ℕ) (r : Option (Bor (List ℕ) × Bor (List ℕ))) → 1 ≤ length text → (eqb (slice_index_or text 0 0) 36 && opens_macro (tail text)) ≡ true → UseSo (use_at ds (tail text)) (tail text) r → PieceSo ds text r
use_so ds [] r some opens h = absurd (omega arith)
use_so ds (b ∷ bs) None some opens h = no_piece ds b bs (rw (tail_is b bs) at opens) (rw (tail_is b bs) at h)
use_so ds (b ∷ bs) (Some p) some opens h =
    let here : use_at ds bs ≡ Some (record { value = p.0.now; size = h.0 }) = rw (tail_is b bs) at h.1 in
    let behind : p.1.now ≡ drop h.0 bs = rw (tail_is b bs) at h.2 in
    let size : length p.1.now ≡ length bs - h.0 = ap length behind ∙ length-drop h.0 bs in
    (use_piece ds b bs _ (rw (tail_is b bs) at opens) here ∙ ap (λ (l : List ℕ). onto_text p.0.now (replaced ds l)) (sym behind), omega arith)

pub use_found : (ds : List Defined) (bytes inner close value : List ℕ) → 1 ≤ length bytes → inner ≡ front_of (closing_of (slice_index_or bytes 0 0)) (tail bytes) → close ≡ back_of (closing_of (slice_index_or bytes 0 0)) (tail bytes)
    → 1 ≤ length close → used ds inner ≡ Some value → (size : ℕ) × (use_at ds bytes ≡ Some (record { value = value; size = size })) × (tail close ≡ drop size bytes)
unfolding use_at
use_found ds [] inner close value some front back closes is = absurd (omega arith)
use_found ds (b ∷ bs) inner [] value some front back closes is = absurd (omega arith)
use_found ds (b ∷ bs) inner (e ∷ es) value some front back closes is =
    let c = closing_of b in
    let front' : inner ≡ front_of c bs = rw (tail_is b bs) at front in
    let back' : e ∷ es ≡ back_of c bs = rw (tail_is b bs) at back in
    let size : length inner + 2 ≡ suc (suc (length inner)) = omega arith in
    let behind : drop (length inner) bs ≡ e ∷ es = rw front' (front_drop c bs) ∙ sym back' in
    (length inner + 2, rw (← front', ← back', is) refl, tail_is e es ∙ ap (drop 1) (sym behind) ∙ sym (drop_one (length inner) bs) ∙ ap (λ (n : ℕ). drop n (b ∷ bs)) (sym size))

-- ---- Bytes up to the next `$`

pub run_fits : (text front : List ℕ) → 1 ≤ length text → front ≡ front_of 36 (tail text) → length front + 1 ≤ length text
run_fits [] front some is = absurd (omega arith)
run_fits (b ∷ bs) front some is =
    let size : length front ≡ length (front_of 36 bs) = ap length (is ∙ ap (front_of 36) (tail_is b bs)) in
    omega (arith, front_le 36 bs)

pub run_so : (ds : List Defined) (text front back run : List ℕ) → 1 ≤ length text → (eqb (slice_index_or text 0 0) 36 && opens_macro (tail text)) ≡ false → front ≡ front_of 36 (tail text) → back ≡ back_of 36 (tail text)
    → run ≡ take (length front + 1) text → (replaced ds text ≡ onto_text run (replaced ds back)) × (length back < length text)
run_so ds [] front back run some opens is behind cut = absurd (omega arith)
run_so ds (b ∷ bs) front back run some opens is behind cut =
    let front' : front ≡ front_of 36 bs = is ∙ ap (front_of 36) (tail_is b bs) in
    let back' : back ≡ back_of 36 bs = behind ∙ ap (back_of 36) (tail_is b bs) in
    let size : length front + 1 ≡ suc (length (front_of 36 bs)) = rw front' (omega arith) in
    let run' : run ≡ b ∷ front_of 36 bs = cut ∙ ap (λ (n : ℕ). take n (b ∷ bs)) size ∙ ap (λ (l : List ℕ). b ∷ l) (front_take 36 bs) in
    let shorter : length back ≡ length (back_of 36 bs) = ap length back' in
    (run_piece ds b bs (rw (tail_is b bs) at opens) ∙ ap (λ (l : List ℕ). onto_text l (replaced ds (back_of 36 bs))) (sym run') ∙ ap (λ (l : List ℕ). onto_text run (replaced ds l)) (sym back'), omega (arith, back_le 36 bs))

-- ---- A text without a `$`

pub lacks_first : (c b : ℕ) (bs : List ℕ) → lacks c (b ∷ bs) ≡ true → (eqb b c ≡ false) × (lacks c bs ≡ true)
lacks_first c b bs h = by_test (eqb b c) refl h
  where
    by_test : (t : Bool) → eqb b c ≡ t → cond t false (lacks c bs) ≡ true → (eqb b c ≡ false) × (lacks c bs ≡ true)
    by_test true is g = cc
    by_test false is g = (is, g)

pub lacks_front : (c : ℕ) (bs : List ℕ) → lacks c bs ≡ true → front_of c bs ≡ bs
lacks_front c [] h = refl
lacks_front c (b ∷ bs) h = let k = lacks_first c b bs h in rw k.0 (ap (λ (l : List ℕ). b ∷ l) (lacks_front c bs k.1))

pub lacks_back : (c : ℕ) (bs : List ℕ) → lacks c bs ≡ true → back_of c bs ≡ []
lacks_back c [] h = refl
lacks_back c (b ∷ bs) h = let k = lacks_first c b bs h in rw k.0 (lacks_back c bs k.1)

pub replaced_plain : (ds : List Defined) (bs : List ℕ) → lacks 36 bs ≡ true → replaced ds bs ≡ Some bs
replaced_plain ds bs h = plain_same ds bs (lacks_back 36 bs h) (lacks_front 36 bs h)
