-- Parts of a list, from a place on.
use Rattle.std.proofs.Common.{◌≡◌, ◌≤◌, ◌+◌, ℕ, zero, suc, None, List, [], ◌∷◌, ◌++◌, Option, Some, sym, ap, ap₂, ◌∙◌, length, take, drop, slice_get, arith}
use Rattle.std.proofs.Math.Seq.{take-add, drop-cons}
use Rattle.std.proofs.lemmas.List.{drop-drop}
use Rattle.std.proofs.lemmas.Option.{slice_get_within, get_or_from_slice_get}
use Rattle.std.specs.Option.{option_map, IfNone}

some_none : {X : Type 0} (x : X) → Some x ≡ None → ⊥
some_none x e = cc

-- The list from a place on begins with the item there.
drop_at : {X : Type 0} (xs : List X) (n : ℕ) (x : X) → slice_get xs n ≡ Some x → drop n xs ≡ x ∷ drop (n + 1) xs
drop_at xs n x found =
    let next : suc n ≡ n + 1 = omega arith in
    drop-cons xs n x (slice_get_within xs n x found) ∙ ap₂ (λ y m. y ∷ drop m xs) (get_or_from_slice_get xs n x x found) next

-- One more of the entries from a place on.
pub taken_more : {X : Type 0} (xs : List X) (from i : ℕ) (x : X) → slice_get xs (from + i) ≡ Some x → take (i + 1) (drop from xs) ≡ take i (drop from xs) ++ x ∷ []
taken_more xs from i x found =
    take-add i 1 (drop from xs) ∙ ap (λ l. take i (drop from xs) ++ take 1 l) (drop-drop i from xs ∙ drop_at xs (from + i) x found)

-- A list ends before a place at which it has no item.
past_end : {X : Type 0} (xs : List X) (k : ℕ) → slice_get xs k ≡ None → length xs ≤ k
past_end [] k none = omega arith
past_end (x ∷ xs) zero none = absurd (let z : ⊥ = some_none x none in z)
past_end (x ∷ xs) (suc k) none = let rest = past_end xs k none in omega (arith, rest)

-- There is nothing only past the end.
pub none_past : {A X : Type 0} (P : Type 0) (f : A → X) (o : Option A) (xs : List X) (k : ℕ) → option_map f o ≡ slice_get xs k → (length xs ≤ k → P) → IfNone o P
none_past P f None xs k is then = then (past_end xs k (sym is))
none_past P f (Some a) xs k is then = tt
