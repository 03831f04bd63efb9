-- The copies of the records of all sets, and of the puts with notification that wait in them, are
-- those of the world of all records.
use Rattle.std.proofs.Common.{◌≡◌, ◌≢◌, ℕ, zero, suc, ◌<◌, ◌≤◌, Bool, List, [], ◌∷◌, ◌++◌, length, get_or, Option, Some, None, refl, sym, ap, ◌∙◌, subst, inl, inr, ⊎_elim, arith}
use Rattle.std.specs.Prelude.{◌⊎◌, ◌==◌, IsSome, is_some, Contains, All}
use Rattle.std.specs.List.{filter, flat_map}
use Rattle.std.specs.FinMap.{get}
use Rattle.std.proofs.lemmas.List.{append-nil, get_or_past, get_or_default}
use Rattle.std.proofs.lemmas.List.Elements.{filter-append}
use Rattle.ioc_notify.specs.declared.waiting_lists.Waiting.{Waiting}
use Rattle.ioc_notify.specs.Waits.{at_record}
use Rattle.ioc_store.specs.World.{World, Has}
use Rattle.ioc_journal.specs.Base.{IsBaseOf}
use Rattle.ioc_journal.proofs.Basics.{nobody-waits}
use Rattle.ioc_journal.specs.Covering.{WaitsWithin}
use Rattle.ioc_set.specs.SetState.{SetState, now_of}
use Rattle.ioc_topology.specs.Gathered.{HoldEach}
use Rattle.ioc_journaled_set.specs.Copies.{AreCopies, IsIn}
use Rattle.ioc_journaled_set.specs.Holding.{HeldView, numbers_of}
use Rattle.ioc_journaled_set.proofs.Keys.{key_there, there_key}

pub below_or_past : (n count : ℕ) → (n < count) ⊎ (count ≤ n)
below_or_past n zero = inr (omega arith)
below_or_past zero (suc count) = inl (omega arith)
below_or_past (suc n) (suc count) = ⊎_elim (λ (l : n < count). inl (omega (arith, l))) (λ (l : count ≤ n). inr (omega (arith, l))) (below_or_past n count)

apart_ways : (i j : ℕ) → j ≢ i → (i < j) ⊎ (j < i)
apart_ways i j apart = ⊎_elim (λ (l : i < j). inl l) (λ (l : j ≤ i). inr (omega (arith, apart, l))) (below_or_past i j)

some_is : {X : Type 0} (o : Option X) → IsSome o → (x : X) × (o ≡ Some x)
some_is (Some x) is = (x, refl)
some_is None is = cc

module _ {X A : Type 0} (test : A → Bool) (f : X → List A) where
  -- Nothing passes the test if every list has nothing that passes.
  none_pass : (xs : List X) → All (λ x. filter test (f x) ≡ []) xs → filter test (flat_map f xs) ≡ []
  none_pass [] none = refl
  none_pass (x ∷ xs) none =
      filter-append test (f x) (flat_map f xs)
      ∙ ap (λ l. l ++ filter test (flat_map f xs)) (none 0 x (omega arith))
      ∙ none_pass xs (λ i d lt. none (suc i) d (let l : suc i < length (x ∷ xs) = omega (arith, lt) in l))

  -- What passes the test is in one of the lists, if all others have nothing that passes.
  one_passes : (xs : List X) (i : ℕ) (d : X) → i < length xs → ((j : ℕ) (e : X) → j < length xs → j ≢ i → filter test (f (get_or xs j e)) ≡ []) → filter test (flat_map f xs) ≡ filter test (f (get_or xs i d))
  one_passes [] i d lt none = absurd (let z : ⊥ = omega (arith, lt) in z)
  one_passes (x ∷ xs) zero d lt none =
      filter-append test (f x) (flat_map f xs)
      ∙ ap (λ l. filter test (f x) ++ l) (none_pass xs (λ j e below. none (suc j) e (let l : suc j < length (x ∷ xs) = omega (arith, below) in l) (λ same. let s : suc j ≡ 0 = same in let z : ⊥ = omega (arith, s) in z)))
      ∙ append-nil (filter test (f x))
  one_passes (x ∷ xs) (suc i) d lt none =
      filter-append test (f x) (flat_map f xs)
      ∙ ap (λ l. l ++ filter test (flat_map f xs)) (none 0 x (omega arith) (λ same. let s : 0 ≡ suc i = same in let z : ⊥ = omega (arith, s) in z))
      ∙ one_passes xs i d (let l : i < length xs = omega (arith, lt) in l)
      (λ j e below apart. none (suc j) e (let l : suc j < length (x ∷ xs) = omega (arith, below) in l) (λ same. apart (let s : suc j ≡ suc i = same in let e : j ≡ i = omega (arith, s) in e)))

-- A set that equals another as it is now is in the same worlds.
pub in_by_set : {R D : Type 0} (m : World R) (one other : HeldView R D) → other.set ≡ one.set → ((n : ℕ) → IsSome (get other.set.records n) → get m.records n ≡ get other.set.records n)
    → ((n : ℕ) → IsSome (get other.set.records n) → at_record n m.waiting ≡ at_record n other.set.waiting) → WaitsWithin (now_of one.set) → IsIn m one
in_by_set m one other same told waiting within = record {
  records = subst (λ (h : SetState _ _). (n : ℕ) → IsSome (get h.records n) → get m.records n ≡ get h.records n) same told;
  waiting = subst (λ (h : SetState _ _). (n : ℕ) → IsSome (get h.records n) → at_record n m.waiting ≡ at_record n h.waiting) same waiting;
  within = within;
}

-- No record is in the sets of two places.
module _ {R D : Type 0} (sets : List (HeldView R D)) (count : ℕ) (each : HoldEach numbers_of sets count) (n : ℕ) where
  one_has : (i j : ℕ) (d e : HeldView R D) → i < length sets → j < length sets → j ≢ i → Contains (numbers_of (get_or sets i d)) n → Contains (numbers_of (get_or sets j e)) n → ⊥
  one_has i j d e within beside apart has too =
      let other = subst (λ (h : HeldView R D). Contains (numbers_of h) n) (get_or_default sets j e d beside) too in
      ⊎_elim
      (λ (l : i < j). each.once i j d l beside n n has other refl)
      (λ (l : j < i). each.once j i d l within n n other has refl)
      (apart_ways i j apart)

module _ {R D : Type 0} (m : World R) (sets : List (HeldView R D)) (count : ℕ) (each : HoldEach numbers_of sets count) (are_in : All (IsIn m) sets) where
  -- The puts with notification that wait for a record wait in the set of the record.
  pub base_waiting : (n : ℕ) → n < count → at_record n m.waiting ≡ at_record n (flat_map (λ (h : HeldView R D). h.set.waiting) sets)
  base_waiting n below =
      let one = each.each n below in
      let i = one.0 in
      let h = one.1 in
      let lt : i < length sets = one.2 in
      let here : Contains (numbers_of (get_or sets i h)) n = subst (λ (s : HeldView R D). Contains (numbers_of s) n) (sym one.3) one.4 in
      (are_in i h lt).waiting n (key_there (get_or sets i h).set.records n here)
      ∙ sym (one_passes (λ (w : Waiting). w.target == n) (λ (s : HeldView R D). s.set.waiting) sets i h lt
      (λ j e within apart. nobody-waits (get_or sets j e).set.waiting n
      (λ x there is.
      let has = subst (λ (q : ℕ). IsSome (get (get_or sets j e).set.records q)) is ((are_in j e within).within x there) in
      one_has sets count each n i j h e lt within apart here (there_key (get_or sets j e).set.records n has))))

  module _ (known : (n : ℕ) → Has m n → n < count) (copies : List (Option R)) (are : AreCopies sets copies) (long : length copies ≡ count) where
    copied : (n : ℕ) → n < count → get m.records n ≡ get_or copies n None
    copied n below =
        let there : n < length copies = omega (arith, below, long) in
        let some = some_is (get_or copies n None) (are.each n there (each.each n below)) in
        let of = are.of_set n some.0 some.1 in
        let here : get (get_or sets of.0 of.1).set.records n ≡ Some some.0 = ap (λ (h : HeldView R D). get h.set.records n) of.3 ∙ of.4 in
        (are_in of.0 of.1 of.2).records n (ap (λ (o : Option R). is_some o) here) ∙ here ∙ sym some.1

    nothing_past : (n : ℕ) → count ≤ n → get m.records n ≡ None
    nothing_past n past = elim (get m.records n) as (λ (o : Option R). get m.records n ≡ o → o ≡ None) [
      | None ↦ λ is. refl
      | (Some r) ↦ λ is. let below = known n (ap (λ (o : Option R). is_some o) is) in absurd (let z : ⊥ = omega (arith, below, past) in z)
    ] refl

    -- Each copy is that of the record of its number.
    pub base_records : (n : ℕ) → get m.records n ≡ get_or copies n None
    base_records n =
        ⊎_elim
        (λ (below : n < count). copied n below)
        (λ (past : count ≤ n). nothing_past n past ∙ sym (get_or_past copies n None (let l : length copies ≤ n = omega (arith, past, long) in l)))
        (below_or_past n count)

    pub is_base : (waiting : List Waiting) → waiting ≡ flat_map (λ (h : HeldView R D). h.set.waiting) sets → IsBaseOf m copies waiting
    is_base waiting is = record {
      records_are = base_records;
      waiting_are = λ n has. base_waiting n (known n has) ∙ ap (λ (l : List Waiting). at_record n l) (sym is);
    }
