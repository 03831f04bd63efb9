-- The bytes before the one that a search finds.
use Rattle.std.proofs.Common.{◌≡◌, ℕ, zero, suc, ◌≤◌, ◌<◌, true, false, not, eqb, List, [], ◌∷◌, length, take, drop, slice_index, Option, Some, None, refl, sym, ap, inl, inr, arith}
use Rattle.std.specs.Prelude.{is_some}
use Rattle.std.proofs.lemmas.Bool.{cases_Bool}
use Rattle.memchr.specs.Find.{IsFirstByte, is_byte}
use Rattle.ioc_dblex.specs.Macros.{front_of, back_of, lacks}

-- Holds if this byte doesn't occur before the index.
abbrev pub NoneTo : ℕ → List ℕ → ℕ → Type 0
NoneTo c bs n = (k : ℕ) → 0 ≤ k → k < n → eqb (slice_index bs k) c ≡ true → ⊥

pub first_other : (c b : ℕ) (bs : List ℕ) (n : ℕ) → NoneTo c (b ∷ bs) (suc n) → eqb b c ≡ false
first_other c b bs n none = elim (cases_Bool (eqb b c)) [ inl is ↦ absurd (none 0 (omega arith) (omega arith) is) | inr is ↦ is ]

pub others_none : (c b : ℕ) (bs : List ℕ) (n : ℕ) → NoneTo c (b ∷ bs) (suc n) → NoneTo c bs n
others_none c b bs n none k low lt is = none (suc k) (omega arith) (omega arith) is

pub lacks_it : (c : ℕ) (bs : List ℕ) → NoneTo c bs (length bs) → lacks c bs ≡ true
lacks_it c [] none = refl
lacks_it c (b ∷ bs) none = rw (first_other c b bs (length bs) none) (lacks_it c bs (others_none c b bs (length bs) none))

pub has_it : (c : ℕ) (bs : List ℕ) (k : ℕ) → k < length bs → eqb (slice_index bs k) c ≡ true → lacks c bs ≡ false
has_it c [] k lt is = absurd (omega arith)
has_it c (b ∷ bs) zero lt is = let here : eqb b c ≡ true = is in rw here refl
has_it c (b ∷ bs) (suc k) lt is =
    let behind : k < length bs = omega arith in
    let later : lacks c bs ≡ false = has_it c bs k behind is in
    elim (cases_Bool (eqb b c)) [ inl here ↦ rw here refl | inr here ↦ rw here later ]

pub lacks_by : (c : ℕ) (bs : List ℕ) (r : Option ℕ) → IsFirstByte (is_byte c) bs r → not (is_some r) ≡ lacks c bs
lacks_by c bs None h = sym (lacks_it c bs h)
lacks_by c bs (Some k) h = sym (has_it c bs k h.0.high h.1)

pub front_all : (c : ℕ) (bs : List ℕ) → NoneTo c bs (length bs) → bs ≡ front_of c bs
front_all c [] none = refl
front_all c (b ∷ bs) none = rw (first_other c b bs (length bs) none) (ap (λ (l : List ℕ). b ∷ l) (front_all c bs (others_none c b bs (length bs) none)))

pub back_none : (c : ℕ) (bs : List ℕ) → NoneTo c bs (length bs) → [] ≡ back_of c bs
back_none c [] none = refl
back_none c (b ∷ bs) none = rw (first_other c b bs (length bs) none) (back_none c bs (others_none c b bs (length bs) none))

pub front_at : (c : ℕ) (bs : List ℕ) (k : ℕ) → k < length bs → NoneTo c bs k → eqb (slice_index bs k) c ≡ true → take k bs ≡ front_of c bs
front_at c [] k lt none is = absurd (omega arith)
front_at c (b ∷ bs) zero lt none is = let here : eqb b c ≡ true = is in rw here refl
front_at c (b ∷ bs) (suc k) lt none is =
    let behind : k < length bs = omega arith in
    rw (first_other c b bs k none) (ap (λ (l : List ℕ). b ∷ l) (front_at c bs k behind (others_none c b bs k none) is))

pub back_at : (c : ℕ) (bs : List ℕ) (k : ℕ) → k < length bs → NoneTo c bs k → eqb (slice_index bs k) c ≡ true → drop k bs ≡ back_of c bs
back_at c [] k lt none is = absurd (omega arith)
back_at c (b ∷ bs) zero lt none is = let here : eqb b c ≡ true = is in rw here refl
back_at c (b ∷ bs) (suc k) lt none is =
    let behind : k < length bs = omega arith in
    rw (first_other c b bs k none) (back_at c bs k behind (others_none c b bs k none) is)
