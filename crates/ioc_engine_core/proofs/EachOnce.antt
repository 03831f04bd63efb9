-- Sets that have each of the first numbers once have as many numbers together.
use Rattle.std.proofs.Common.{◌≡◌, ◌≢◌, ◌⊎◌, inl, inr, ⊎_elim, ◌<◌, ℕ, zero, suc, Bool, true, false, ◌||◌, eqb, List, [], ◌∷◌, ◌++◌, length, get_or, slice_index_or, Contains, Any, AllPairs, flat_map, sum_by, refl, sym, subst, ◌∙◌, eqb-true, arith}
use Rattle.std.specs.Cmp.{nat_eq_equiv}
use Rattle.std.specs.List.{AllByRecursion, IsDistinct, list_any}
use Rattle.std.proofs.lemmas.Bool.{or_left, or_right, false_from_ne_true}
use Rattle.std.proofs.lemmas.List.Concat.{length-flat_map}
use Rattle.std.proofs.lemmas.List.Folds.{list_any-append}
use Rattle.std.proofs.lemmas.Map.Steps.{length-le_from_distinct_below, le-length_from_below}
use Rattle.std.proofs.lemmas.Map.Views.{Contains-from_any, list_any-from_Contains}
use Rattle.ioc_topology.specs.Gathered.{AreApart, HoldEach}

-- Whether a number is in a list.
abbrev has : List ℕ → ℕ → Bool
has ns q = list_any (eqb q) ns

-- If one of two tests passes, it is the first or the second.
or-cases : (a b : Bool) → (a || b) ≡ true → (a ≡ true) ⊎ (b ≡ true)
or-cases true b e = inl refl
or-cases false b e = inr e

-- A number that no element is equal to.
none-equal : (x : ℕ) (ns : List ℕ) → ((q : ℕ) → has ns q ≡ true → x ≢ q) → AllByRecursion (λ y. eqb x y ≡ false) ns
none-equal x [] apart = tt
none-equal x (y ∷ ns) apart = (
  false_from_ne_true (eqb x y) (λ e. apart y (or_left (eqb y y) (has ns y) (nat_eq_equiv.refl y)) (eqb-true x y e)),
  none-equal x ns (λ q there. apart q (or_right (eqb q y) (has ns q) there)),
)

-- What holds of each element of two lists holds of each of both together.
all-append : (p : ℕ → Type 0) (xs ys : List ℕ) → AllByRecursion p xs → AllByRecursion p ys → AllByRecursion p (xs ++ ys)
all-append p [] ys a b = b
all-append p (x ∷ xs) ys a b = (a.0, all-append p xs ys a.1 b)

-- Two lists without repetitions that share no number have none together.
distinct-append : (xs ys : List ℕ) → IsDistinct eqb xs → IsDistinct eqb ys → ((p q : ℕ) → has xs p ≡ true → has ys q ≡ true → p ≢ q) → IsDistinct eqb (xs ++ ys)
unfolding IsDistinct
distinct-append [] ys one other apart = other
distinct-append (x ∷ xs) ys one other apart = (
  all-append (λ y. eqb x y ≡ false) xs ys one.0 (none-equal x ys (λ q. apart x q (or_left (eqb x x) (has xs x) (nat_eq_equiv.refl x)))),
  distinct-append xs ys one.1 other (λ p q there. apart p q (or_right (eqb p x) (has xs p) there)),
)

-- A list contains a number that it has by the test.
contains : (q : ℕ) (ns : List ℕ) → has ns q ≡ true → Contains ns q
contains q ns = Contains-from_any eqb-true q ns

module _ {S : Type 0} (numbers : S → List ℕ) where
  -- The numbers of sets, those of one set after those of another, are among those of some set.
  of-one : (sets : List S) (q : ℕ) → has (flat_map numbers sets) q ≡ true → Any (λ s. Contains (numbers s) q) sets
  of-one [] q there = cc
  of-one (s ∷ sets) q there = ⊎_elim
      (λ here. (0, s, omega arith, refl, contains q (numbers s) here))
      (λ later. let o = of-one sets q later in (suc o.0, o.1, omega (arith, o.2), o.3, o.4))
      (or-cases (has (numbers s) q) (has (flat_map numbers sets) q) (sym (list_any-append (eqb q) (numbers s) (flat_map numbers sets)) ∙ there))

  -- A number of the set at a place is among the numbers of all sets.
  at-place : (sets : List S) (q i : ℕ) (d : S) → i < length sets → Contains (numbers (get_or sets i d)) q → has (flat_map numbers sets) q ≡ true
  at-place [] q i d lt there = absurd (omega (arith, lt))
  at-place (s ∷ sets) q zero d lt there = list_any-append (eqb q) (numbers s) (flat_map numbers sets)
      ∙ or_left (has (numbers s) q) (has (flat_map numbers sets) q) (list_any-from_Contains nat_eq_equiv q (numbers s) there)
  at-place (s ∷ sets) q (suc i) d lt there = list_any-append (eqb q) (numbers s) (flat_map numbers sets)
      ∙ or_right (has (numbers s) q) (has (flat_map numbers sets) q) (at-place sets q i d (omega (arith, lt)) there)

  -- If no set has a number twice and no two share one, no number is twice among those of all sets.
  all-distinct : (sets : List S) → AllPairs (AreApart numbers) sets → ((i : ℕ) (d : S) → i < length sets → IsDistinct eqb (numbers (slice_index_or sets i d))) → IsDistinct eqb (flat_map numbers sets)
  unfolding IsDistinct
  all-distinct [] once each = tt
  all-distinct (s ∷ sets) once each = distinct-append (numbers s) (flat_map numbers sets)
      (each 0 s (omega arith))
      (all-distinct sets (λ i j d lt within. once (suc i) (suc j) d (omega (arith, lt)) (omega (arith, within))) (λ i d lt. each (suc i) d (omega (arith, lt))))
      (λ p q here there. let o = of-one sets q there in
      once 0 (suc o.0) o.1 (omega arith) (omega (arith, o.2)) p q (contains p (numbers s) here) (subst (λ (t : S). Contains (numbers t) q) (sym o.3) o.4))

  -- If sets have each of the first numbers and no other, and none has a number twice, the lengths
  -- of their lists add up to the number of those.
  pub each-once : (sets : List S) (n : ℕ) → HoldEach numbers sets n
      → ((i : ℕ) (d : S) → i < length sets → IsDistinct eqb (numbers (slice_index_or sets i d)))
      → ((i : ℕ) (d : S) (q : ℕ) → i < length sets → Contains (numbers (slice_index_or sets i d)) q → q < n)
      → sum_by (λ s. length (numbers s)) sets ≡ n
  each-once sets n hold distinct below =
      let all = flat_map numbers sets in
      let within : (q : ℕ) → has all q ≡ true → q < n = λ q there. (let o = of-one sets q there in below o.0 o.1 q o.2 (subst (λ (t : S). Contains (numbers t) q) (sym o.3) o.4)) in
      let there : (q : ℕ) → q < n → has all q ≡ true = λ q lt. (let o = hold.each q lt in at-place sets q o.0 o.1 o.2 (subst (λ (t : S). Contains (numbers t) q) (sym o.3) o.4)) in
      let at_most = length-le_from_distinct_below all n (all-distinct sets hold.once distinct) within in
      let at_least = le-length_from_below all n there in
      let sum = length-flat_map numbers sets in
      omega (arith, at_most, at_least, sum)
