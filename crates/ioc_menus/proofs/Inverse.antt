-- In a list of distinct texts, the position of a text is the only place where it occurs.
use Rattle.std.proofs.Common.{◌≡◌, ℕ, zero, suc, ◌+◌, ◌<◌, Bool, true, false, not, cond, ◌&&◌, ◌||◌, Some, List, [], ◌∷◌, length, position, get_or, refl, sym, ap, ◌∙◌, arith, ◌↔◌}
use Rattle.std.proofs.lemmas.Bool.Decides.{nat_tests}
use Rattle.std.proofs.lemmas.List.Sums.{passes_at_first}
use Rattle.std.proofs.lemmas.Option.{slice_get_within}
use Rattle.std.proofs.lemmas.Slice.Eq.{bytes_eq-Decides}
use Rattle.std.specs.List.{slice_get, list_any, position_or_len}
use Rattle.std.specs.Str.{bytes_eq}

-- Holds if no text occurs twice in the list.
abbrev pub are_distinct : List (List ℕ) → Bool
are_distinct [] = true
are_distinct (t ∷ ts) = not (list_any (λ u. bytes_eq t u) ts) && are_distinct ts

or_false : (a b : Bool) → (a || b) ≡ false → (a ≡ false) × (b ≡ false)
or_false true b e = cc
or_false false b e = (refl, e)

not_and : (a b : Bool) → (not a && b) ≡ true → (a ≡ false) × (b ≡ true)
not_and true b e = cc
not_and false b e = (refl, e)

not_among : (p : List ℕ → Bool) (xs : List (List ℕ)) (n : ℕ) (t : List ℕ) → slice_get xs n ≡ Some t → list_any p xs ≡ false → p t ≡ false
not_among p [] n t e h = cc
not_among p (x ∷ xs) zero t e h = let s : x ≡ t = cc in ap p (sym s) ∙ (or_false (p x) (list_any p xs) h).0
not_among p (x ∷ xs) (suc n) t e h = not_among p xs n t e (or_false (p x) (list_any p xs) h).1

place-text : (t : List ℕ) (xs : List (List ℕ)) (n : ℕ) → slice_get xs n ≡ Some t → are_distinct xs ≡ true → position_or_len (λ x. bytes_eq x t) xs ≡ n
place-text t [] n e d = cc
place-text t (x ∷ xs) zero e d =
    let s : x ≡ t = cc in
    let r : bytes_eq x t ≡ true = (bytes_eq-Decides x t).1 s in
    ap (λ b. cond (not b) (1 + position_or_len (λ y. bytes_eq y t) xs) 0) r
place-text t (x ∷ xs) (suc n) e d =
    let parts = not_and (list_any (λ u. bytes_eq x u) xs) (are_distinct xs) d in
    let r : bytes_eq x t ≡ false = not_among (λ u. bytes_eq x u) xs n t e parts.0 in
    let rest : position_or_len (λ y. bytes_eq y t) xs ≡ n = place-text t xs n e parts.1 in
    let last : 1 + position_or_len (λ y. bytes_eq y t) xs ≡ suc n = omega arith in
    ap (λ b. cond (not b) (1 + position_or_len (λ y. bytes_eq y t) xs) 0) r ∙ last

position_at : {X : Type 0} (p : X → Bool) (xs : List X) (n : ℕ) → position_or_len p xs ≡ n → n < length xs → position p xs ≡ Some n
position_at p xs n e h = grind (arith, nat_tests, e, h)

pub position-text : (t : List ℕ) (xs : List (List ℕ)) (n : ℕ) → are_distinct xs ≡ true → slice_get xs n ≡ Some t → position (λ x. bytes_eq x t) xs ≡ Some n
position-text t xs n d e = position_at (λ x. bytes_eq x t) xs n (place-text t xs n e d) (slice_get_within xs n t e)

slice_get-within : {X : Type 0} (xs : List X) (n : ℕ) (d : X) → n < length xs → slice_get xs n ≡ Some (get_or xs n d)
slice_get-within [] n d h = absurd (omega arith)
slice_get-within (x ∷ xs) zero d h = refl
slice_get-within (x ∷ xs) (suc n) d h = slice_get-within xs n d (omega arith)

found_at : {X : Type 0} (p : X → Bool) (xs : List X) (n : ℕ) → position p xs ≡ Some n → (position_or_len p xs ≡ n) × (n < length xs)
found_at p xs n e = grind (arith, nat_tests, e)

pub slice_get-position : (t : List ℕ) (xs : List (List ℕ)) (n : ℕ) → position (λ x. bytes_eq x t) xs ≡ Some n → slice_get xs n ≡ Some t
slice_get-position t xs n e =
    let f = found_at (λ x. bytes_eq x t) xs n e in
    let at : position_or_len (λ x. bytes_eq x t) xs < length xs = omega arith in
    let passes = passes_at_first (λ x. bytes_eq x t) xs [] at in
    let is : get_or xs (position_or_len (λ x. bytes_eq x t) xs) [] ≡ t = (bytes_eq-Decides (get_or xs (position_or_len (λ x. bytes_eq x t) xs) []) t).0 passes in
    slice_get-within xs n [] f.1 ∙ ap (λ m. Some (get_or xs m [])) (sym f.0) ∙ ap Some is

pub inverse_of-distinct : (t : List ℕ) (xs : List (List ℕ)) (n : ℕ) → are_distinct xs ≡ true → (position (λ x. bytes_eq x t) xs ≡ Some n) ↔ (slice_get xs n ≡ Some t)
inverse_of-distinct t xs n d = (slice_get-position t xs n, position-text t xs n d)
