-- Lists in which each item stands at its number.
use Rattle.std.proofs.Common.{◌≡◌, ℕ, zero, suc, ◌+◌, List, [], ◌∷◌, Some, refl, sym, ap, ◌∙◌, arith}
use Rattle.std.specs.Prelude.{⊤, ◌<◌, length, slice_get, unwrap_or}

-- Holds if the numbers of the items count up from the first.
abbrev pub CountsFrom : {C : Type 0} → (C → ℕ) → ℕ → List C → Type 0
CountsFrom number first [] = ⊤
CountsFrom number first (x ∷ xs) = (number x ≡ first) × CountsFrom number (suc first) xs

number_from : {C : Type 0} (number : C → ℕ) (first : ℕ) (xs : List C) (n : ℕ) (x : C) → CountsFrom number first xs → slice_get xs n ≡ Some x → number x ≡ first + n
number_from number first [] n x h e = cc
number_from number first (y ∷ xs) zero x h e = let s : y ≡ x = cc in ap number (sym s) ∙ (h.0 ∙ omega arith)
number_from number first (y ∷ xs) (suc n) x h e = number_from number (suc first) xs n x h.1 e ∙ omega arith

-- The item at a place has the number of that place.
pub number_at : {C : Type 0} (number : C → ℕ) (xs : List C) (n : ℕ) (x : C) → CountsFrom number 0 xs → slice_get xs n ≡ Some x → number x ≡ n
number_at number xs n x h e = number_from number 0 xs n x h e ∙ omega arith

taken : {C : Type 0} (xs : List C) (n : ℕ) (old : C) → n < length xs → slice_get xs n ≡ Some (unwrap_or (slice_get xs n) old)
taken [] n old within = absurd (omega arith)
taken (x ∷ xs) zero old within = refl
taken (x ∷ xs) (suc n) old within = taken xs n old (omega arith)

-- An item that is taken from a place has the number of that place.
pub number_back : {C : Type 0} (number : C → ℕ) (xs : List C) (n : ℕ) (old : C) → CountsFrom number 0 xs → n < length xs → number (unwrap_or (slice_get xs n) old) ≡ n
number_back number xs n old h within = number_at number xs n (unwrap_or (slice_get xs n) old) h (taken xs n old within)
