-- A put with notification is removed from all records.
use Rattle.std.proofs.Common.{◌≡◌, ℕ, zero, suc, ◌+◌, ◌<◌, ◌≤◌, Bool, true, false, cond, List, [], ◌∷◌, ◌++◌, map, length, take, drop, set, get_or, Option, Some, None, unwrap_or, is_some, IsTrue, T, refl, sym, ap, subst, ◌∙◌, append-nil, arith}
use Rattle.std.specs.Prelude.{slice_get, ◌&&◌}
use Rattle.std.proofs.lemmas.List.{take_all, drop_all, length-map}
use Rattle.std.specs.Ordering.{nat_cmp, eq_by_cmp, is_lt}
use Rattle.std.specs.Cmp.{nat_cmp_total}
use Rattle.std.specs.FinMap.{FinMap, get, find, len, len-entries, contains_key, entries, entries_sorted, from_sorted, entries-from_sorted, get-entries, is_sorted, same_map, nat_cmp-IsAntisymmetric}
use Rattle.std.specs.FinMap.Entries.{below_all}
use Rattle.ioc_dbcommon.specs.Steps.{with_notification}
use Rattle.ioc_record.specs.RecordRules.{RecordRules}
use Rattle.ioc_store.specs.OneMap.{numbered}
use Rattle.ioc_store.specs.OneMapLaws.{get-numbered}
use Rattle.ioc_store.specs.World.{World, Has, at, freed, cancelled, is_notification}

module _ {A : Type 0} (f : A → A) where
  -- One more item is mapped at its index.
  pub map_more : (xs : List A) (i : ℕ) (d : A) → i < length xs → set (map f (take i xs) ++ drop i xs) i (f (get_or xs i d)) ≡ map f (take (i + 1) xs) ++ drop (i + 1) xs
  map_more [] i d lt = absurd (omega arith)
  map_more (x ∷ xs) zero d lt = refl
  map_more (x ∷ xs) (suc i) d lt =
      let e : suc i + 1 ≡ suc (i + 1) = omega arith in
      let below : i < length xs = omega arith in
      rw e (ap (λ ys. f x ∷ ys) (map_more xs i d below))

  -- The first item that is not mapped yet is unchanged.
  pub get_more : (xs : List A) (i : ℕ) (d : A) → i < length xs → get_or (map f (take i xs) ++ drop i xs) i d ≡ get_or xs i d
  get_more [] i d lt = absurd (omega arith)
  get_more (x ∷ xs) zero d lt = refl
  get_more (x ∷ xs) (suc i) d lt = let below : i < length xs = omega arith in get_more xs i d below

  -- All items are mapped.
  pub all_mapped : (xs : List A) (i : ℕ) → length xs ≤ i → map f (take i xs) ++ drop i xs ≡ map f xs
  all_mapped xs i past = rw (take_all i xs past, drop_all i xs past) (append-nil (map f xs))

-- The option with its value mapped.
abbrev option_mapped : {A B : Type 0} → (A → B) → Option A → Option B
option_mapped f None = None
option_mapped f (Some x) = Some (f x)

module _ {R : Type 0} (f : R → R) where
  abbrev pub on_value : ℕ × R → ℕ × R
  on_value e = (e.0, f e.1)

  below-mapped : (x : ℕ) (es : List (ℕ × R)) → below_all nat_cmp x (map on_value es) ≡ below_all nat_cmp x es
  below-mapped x [] = refl
  below-mapped x (e ∷ es) = ap (λ (b : Bool). is_lt (nat_cmp x e.0) && b) (below-mapped x es)

  sorted-mapped : (es : List (ℕ × R)) → is_sorted nat_cmp (map on_value es) ≡ is_sorted nat_cmp es
  sorted-mapped [] = refl
  sorted-mapped (e ∷ es) = ap (λ (b : Bool). b && is_sorted nat_cmp (map on_value es)) (below-mapped e.0 es) ∙ ap (λ (b : Bool). below_all nat_cmp e.0 es && b) (sorted-mapped es)

  -- The entries are those of `m`, each with its value mapped.
  pub entries-mapped : (m : FinMap nat_cmp R) → entries (from_sorted {R = nat_cmp} (map on_value (entries m))) ≡ map on_value (entries m)
  entries-mapped m = entries-from_sorted nat_cmp _ (subst T (sym (sorted-mapped (entries m))) (entries_sorted m))

  find-mapped : (q : ℕ) (es : List (ℕ × R)) → find nat_cmp q (map on_value es) ≡ option_mapped f (find nat_cmp q es)
  find-mapped q [] = refl
  find-mapped q (e ∷ es) = elim (eq_by_cmp nat_cmp q e.0) as (λ b. cond b (Some (f e.1)) (find nat_cmp q (map on_value es)) ≡ option_mapped f (cond b (Some e.1) (find nat_cmp q es))) [
    | true ↦ refl
    | false ↦ find-mapped q es
  ]

  pub get-mapped : (m : FinMap nat_cmp R) (q : ℕ) → get (from_sorted {R = nat_cmp} (map on_value (entries m))) q ≡ option_mapped f (get m q)
  get-mapped m q =
      get-entries (from_sorted {R = nat_cmp} (map on_value (entries m))) q ∙ ap (find nat_cmp q) (entries-mapped m) ∙ find-mapped q (entries m) ∙ ap (option_mapped f) (sym (get-entries m q))

  slice_get-mapped : (xs : List R) (q : ℕ) → slice_get (map f xs) q ≡ option_mapped f (slice_get xs q)
  slice_get-mapped [] q = refl
  slice_get-mapped (x ∷ xs) zero = refl
  slice_get-mapped (x ∷ xs) (suc q) = slice_get-mapped xs q

  -- The numbered records of a mapped list are those of the list, each mapped.
  pub numbered-mapped : (xs : List R) → numbered (map f xs) ≡ from_sorted (map on_value (entries (numbered xs)))
  numbered-mapped xs = same_map nat_cmp_total nat_cmp-IsAntisymmetric _ _ (λ q. get-numbered (map f xs) q ∙ slice_get-mapped xs q ∙ ap (option_mapped f) (sym (get-numbered xs q)) ∙ sym (get-mapped (numbered xs) q))

is_some-mapped : {A B : Type 0} (f : A → B) (o : Option A) → is_some (option_mapped f o) ≡ is_some o
is_some-mapped f None = refl
is_some-mapped f (Some x) = refl

module _ {R : Type 0} (k : RecordRules R) (number : ℕ) where
  get-cancelled : (w : World R) (n : ℕ) → get (cancelled k number w).records n ≡ option_mapped (freed k number) (get w.records n)
  unfolding cancelled
  get-cancelled w n = get-mapped (freed k number) w.records n

  -- A cancelled put with notification adds and removes no record.
  pub has-cancelled : (w : World R) (n : ℕ) → contains_key (cancelled k number w).records n ≡ contains_key w.records n
  has-cancelled w n = ap is_some (get-cancelled w n) ∙ is_some-mapped (freed k number) (get w.records n)

  pub len-cancelled : (w : World R) → len (cancelled k number w).records ≡ len w.records
  unfolding cancelled
  len-cancelled w = len-entries _ ∙ ap length (entries-mapped (freed k number) w.records) ∙ length-map (entries w.records) (on_value (freed k number)) ∙ sym (len-entries w.records)

  at_mapped-either : (P : R → R → Type 0) → ((r : R) → P r r) → ((r : R) → P r (freed k number r)) → (o : Option R) → P (unwrap_or o k.missing) (unwrap_or (option_mapped (freed k number) o) k.missing)
  at_mapped-either P same new None = same _
  at_mapped-either P same new (Some r) = new r

  -- Each record is as it was, or no longer part of the put with notification.
  pub at_cancelled-either : (P : R → R → Type 0) → ((r : R) → P r r) → ((r : R) → P r (k.with_common r (with_notification None (k.common r)))) → (w : World R) (n : ℕ) → P (at k w n) (at k (cancelled k number w) n)
  unfolding at
  at_cancelled-either P same new w n =
      let either : (r : R) → P r (freed k number r) = λ r. elim (is_notification number (k.common r).notification) as (λ b. P r (cond b (k.with_common r (with_notification None (k.common r))) r)) [
        | true ↦ new r
        | false ↦ same r
      ] in
      subst (λ (o : Option R). P (unwrap_or (get w.records n) k.missing) (unwrap_or o k.missing)) (sym (get-cancelled w n)) (at_mapped-either P same either (get w.records n))

  -- A property of every freed record holds of those that are there.
  free_at : (P : R → Type 0) → ((r : R) → P (freed k number r)) → (o : Option R) → IsTrue (is_some (option_mapped (freed k number) o)) → P (unwrap_or (option_mapped (freed k number) o) k.missing)
  free_at P free None has = cc
  free_at P free (Some r) has = free r

  pub cancelled-free_at : (w : World R) (P : R → Type 0) → ((r : R) → P (freed k number r)) → (n : ℕ) → Has (cancelled k number w) n → P (at k (cancelled k number w) n)
  unfolding at
  cancelled-free_at w P free n has =
      subst (λ (o : Option R). P (unwrap_or o k.missing)) (sym (get-cancelled w n)) (free_at P free (get w.records n) (subst (λ (o : Option R). IsTrue (is_some o)) (get-cancelled w n) has))

  -- The record at a number is freed, if there is one.
  mapped_at : (o : Option R) (b : Bool) → is_some o ≡ b → unwrap_or (option_mapped (freed k number) o) k.missing ≡ cond b (freed k number (unwrap_or o k.missing)) k.missing
  mapped_at None true is = cc
  mapped_at None false is = refl
  mapped_at (Some r) true is = refl
  mapped_at (Some r) false is = cc

  pub at_cancelled-is : (w : World R) (n : ℕ) (b : Bool) → contains_key w.records n ≡ b → at k (cancelled k number w) n ≡ cond b (freed k number (at k w n)) k.missing
  unfolding at
  at_cancelled-is w n b is = ap (λ (o : Option R). unwrap_or o k.missing) (get-cancelled w n) ∙ mapped_at (get w.records n) b is

  missing_at : (o : Option R) → is_some o ≡ false → unwrap_or o k.missing ≡ k.missing
  missing_at None is = refl
  missing_at (Some r) is = cc

  pub at_missing : (w : World R) (n : ℕ) → contains_key w.records n ≡ false → at k w n ≡ k.missing
  unfolding at
  at_missing w n is = missing_at (get w.records n) is
