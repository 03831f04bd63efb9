-- A list whose first items are mapped already, each by its place.
use Rattle.std.proofs.Common.{◌≡◌, ℕ, zero, suc, ◌+◌, ◌<◌, ◌≤◌, List, [], ◌∷◌, ◌++◌, length, take, drop, set, get_or, refl, ap, append-nil, arith}
use Rattle.std.proofs.lemmas.List.{take_all, drop_all}
use Rattle.ioc_dbfile.specs.Finished.{by_place}

-- One more item is mapped in its place.
pub map_more : {A : Type 0} (f : ℕ → A → A) (n : ℕ) (xs : List A) (i : ℕ) (d : A) → i < length xs
    → set (by_place f n (take i xs) ++ drop i xs) i (f (n + i) (get_or xs i d)) ≡ by_place f n (take (i + 1) xs) ++ drop (i + 1) xs
map_more f n [] i d lt = absurd (omega arith)
map_more f n (x ∷ xs) zero d lt = let e : n + 0 ≡ n = omega arith in ap (λ m. f m x ∷ xs) e
map_more f n (x ∷ xs) (suc i) d lt =
    let e : suc i + 1 ≡ suc (i + 1) = omega arith in
    let at : n + suc i ≡ (n + 1) + i = omega arith in
    let below : i < length xs = omega arith in
    rw (e, at) (ap (λ ys. f n x ∷ ys) (map_more f (n + 1) xs i d below))

-- The item at the first place that isn't mapped is unchanged.
pub get_more : {A : Type 0} (f : ℕ → A → A) (n : ℕ) (xs : List A) (i : ℕ) (d : A) → i < length xs → get_or (by_place f n (take i xs) ++ drop i xs) i d ≡ get_or xs i d
get_more f n [] i d lt = absurd (omega arith)
get_more f n (x ∷ xs) zero d lt = refl
get_more f n (x ∷ xs) (suc i) d lt = let below : i < length xs = omega arith in get_more f (n + 1) xs i d below

-- All items are mapped.
pub all_mapped : {A : Type 0} (f : ℕ → A → A) (xs : List A) (i : ℕ) → length xs ≤ i → by_place f 0 (take i xs) ++ drop i xs ≡ by_place f 0 xs
all_mapped f xs i past = rw (take_all i xs past, drop_all i xs past) (append-nil (by_place f 0 xs))
