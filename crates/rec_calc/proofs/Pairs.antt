-- Lists that are combined item by item, from the first item on.
use Rattle.std.proofs.Common.{◌≡◌, ℕ, zero, suc, ◌+◌, ◌<◌, List, [], ◌∷◌, length, refl, ap, ◌∙◌, arith}
use Rattle.std.specs.Prelude.{slice_index_or, slice_set}
use Rattle.rec_calc.specs.Inputs.{paired}

-- The first items are combined, and the others are those of the second list.
abbrev pub paired_up_to : {A B : Type 0} → (A → B → B) → ℕ → List A → List B → List B
paired_up_to f zero xs ys = ys
paired_up_to f (suc i) [] ys = ys
paired_up_to f (suc i) (x ∷ xs) [] = []
paired_up_to f (suc i) (x ∷ xs) (y ∷ ys) = f x y ∷ paired_up_to f i xs ys

-- The next item is still that of the second list.
pub next_kept : {A B : Type 0} (f : A → B → B) (i : ℕ) (xs : List A) (ys : List B) (none : B) → slice_index_or (paired_up_to f i xs ys) i none ≡ slice_index_or ys i none
next_kept f zero xs ys none = refl
next_kept f (suc i) [] ys none = refl
next_kept f (suc i) (x ∷ xs) [] none = refl
next_kept f (suc i) (x ∷ xs) (y ∷ ys) none = next_kept f i xs ys none

-- One more item is combined.
pub one_paired : {A B : Type 0} (f : A → B → B) (i : ℕ) (xs : List A) (ys : List B) (a : A) (b : B) → i < length xs → i < length ys
    → slice_set (paired_up_to f i xs ys) i (f (slice_index_or xs i a) (slice_index_or ys i b)) ≡ paired_up_to f (suc i) xs ys
one_paired f i [] ys a b few less = absurd (omega arith)
one_paired f i (x ∷ xs) [] a b few less = absurd (omega arith)
one_paired f zero (x ∷ xs) (y ∷ ys) a b few less = refl
one_paired f (suc i) (x ∷ xs) (y ∷ ys) a b few less = ap (λ zs. f x y ∷ zs) (one_paired f i xs ys a b (omega arith) (omega arith))

-- The same where the lists and the items have names.
pub one_more : {A B : Type 0} (f : A → B → B) (i : ℕ) (xs : List A) (ys zs : List B) (a : A) (b z : B) → zs ≡ paired_up_to f i xs ys
    → z ≡ f (slice_index_or xs i a) (slice_index_or zs i b) → i < length xs → i < length ys → slice_set zs i z ≡ paired_up_to f (i + 1) xs ys
one_more f i xs ys zs a b z so_far is few less =
    let next : suc i ≡ i + 1 = omega arith in
    ap (λ w. slice_set w i z) so_far
    ∙ ap (slice_set (paired_up_to f i xs ys) i) (is ∙ ap (f (slice_index_or xs i a)) (ap (λ w. slice_index_or w i b) so_far ∙ next_kept f i xs ys b))
    ∙ one_paired f i xs ys a b few less
    ∙ ap (λ k. paired_up_to f k xs ys) next

-- All items are combined.
pub all_paired : {A B : Type 0} (f : A → B → B) (n : ℕ) (xs : List A) (ys : List B) → length xs ≡ n → length ys ≡ n → paired_up_to f n xs ys ≡ paired f xs ys
all_paired f zero [] [] h g = refl
all_paired f zero [] (y ∷ ys) h g = absurd (omega arith)
all_paired f zero (x ∷ xs) ys h g = absurd (omega arith)
all_paired f (suc n) [] ys h g = absurd (omega arith)
all_paired f (suc n) (x ∷ xs) [] h g = absurd (omega arith)
all_paired f (suc n) (x ∷ xs) (y ∷ ys) h g = ap (λ zs. f x y ∷ zs) (all_paired f n xs ys (omega arith) (omega arith))
