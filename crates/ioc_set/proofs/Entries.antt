-- The entries of a finite map, one after another.
use Rattle.std.proofs.Common.{◌≡◌, ℕ, zero, suc, ◌+◌, ◌<◌, ◌≤◌, true, false, cond, T, List, [], ◌∷◌, length, drop, get_or, Option, Some, None, is_some, unwrap_or, refl, sym, ap, subst, ◌∙◌, arith}
use Rattle.std.specs.Prelude.{IsSome, slice_get}
use Rattle.std.specs.Option.{option_map}
use Rattle.std.specs.declared.cmp.Ordering.TheVariants.{Less}
use Rattle.std.specs.Ordering.{nat_cmp, eq_by_cmp, is_eq, ordering_reverse}
use Rattle.std.specs.Cmp.{nat_cmp_total, unsigned_tied}
use Rattle.std.specs.FinMap.{FinMap, len, len-entries, get, get-entries, entries, entries_sorted, keys, contains_key, find}
use Rattle.std.specs.FinMap.Entries.{is_sorted, below_all}
use Rattle.std.proofs.lemmas.Bool.{eq-eqb}
use Rattle.std.proofs.lemmas.List.{drop_more, drop_all, length-map}
use Rattle.std.proofs.lemmas.Option.{slice_get-map, slice_get-get_or, slice_get_within}
use Rattle.ioc_store.specs.Weights.{first, second, less}
use Rattle.ioc_notify.specs.declared.live_numbers.Live.{Live}
use Rattle.ioc_record.specs.RecordRules.{RecordRules}
use Rattle.ioc_set_records.specs.Contents.{Records, record_at}
use Rattle.ioc_set.specs.Recounting.{gained_by, gained_if}

pub none_some : {A : Type 0} (o : Option A) → o ≡ None → IsSome o → ⊥
none_some {A = A} o none some = let h : false ≡ true = sym (ap (λ (p : Option A). is_some p) none) ∙ some in cc

below-at : {X : Type 0} (x : ℕ) (es : List (ℕ × X)) (i : ℕ) (d : ℕ × X) → T (below_all nat_cmp x es) → i < length es → nat_cmp x (get_or es i d).0 ≡ Less
below-at x [] i d below within = absurd (let z : ⊥ = omega (arith, within) in z)
below-at x (e ∷ es) zero d below within = less (nat_cmp x e.0) (first _ _ below)
below-at x (e ∷ es) (suc i) d below within = below-at x es i d (second _ _ below) (omega (arith, within))

find-at : {X : Type 0} (es : List (ℕ × X)) (i : ℕ) (d : ℕ × X) → T (is_sorted nat_cmp es) → i < length es → find nat_cmp (get_or es i d).0 es ≡ Some (get_or es i d).1
find-at [] i d sorted within = absurd (let z : ⊥ = omega (arith, within) in z)
find-at (e ∷ es) zero d sorted within = ap (λ b. cond b (Some e.1) (find nat_cmp e.0 es)) (unsigned_tied e.0 e.0 ∙ eq-eqb e.0 e.0 refl)
find-at (e ∷ es) (suc i) d sorted within =
    let y = (get_or es i d).0 in
    let apart : eq_by_cmp nat_cmp y e.0 ≡ false = ap is_eq (nat_cmp_total.antisymm y e.0 ∙ ap ordering_reverse (below-at e.0 es i d (first _ _ sorted) (omega (arith, within)))) in
    ap (λ b. cond b (Some e.1) (find nat_cmp y es)) apart ∙ find-at es i d (second _ _ sorted) (omega (arith, within))

pub get-at : {X : Type 0} (m : FinMap nat_cmp X) (i : ℕ) (d : ℕ × X) → i < length (entries m) → get m (get_or (entries m) i d).0 ≡ Some (get_or (entries m) i d).1
get-at m i d within = get-entries m (get_or (entries m) i d).0 ∙ find-at (entries m) i d (entries_sorted m) within

module _ {R : Type 0} (k : RecordRules R) (m : Records R) where
  module _ (i q : ℕ) (is : slice_get (keys m) i ≡ Some q) where
    within : i < length (entries m)
    within = let w = slice_get_within (keys m) i q is in omega (arith, w, length-map (entries m) (λ e. e.0))

    abbrev here : ℕ × R
    here = get_or (entries m) i (q, k.missing)

    number : here.0 ≡ q
    number = ap (λ (o : Option ℕ). unwrap_or o here.0) (sym (ap (λ (o : Option (ℕ × R)). option_map (λ e. e.0) o) (slice_get-get_or (entries m) i (q, k.missing) within)) ∙ sym (slice_get-map (λ e. e.0) (entries m) i) ∙ is)

    found : get m q ≡ Some here.1
    found = subst (λ (n : ℕ). get m n ≡ Some here.1) number (get-at m i (q, k.missing) within)

    pub key_there : contains_key m q ≡ true
    key_there = ap (λ (o : Option R). is_some o) found

    pub entry-next : drop i (entries m) ≡ (q, record_at k m q) ∷ drop (i + 1) (entries m)
    entry-next =
        let value : here.1 ≡ record_at k m q = sym (ap (λ (o : Option R). unwrap_or o k.missing) found) in
        let pair : here ≡ (q, record_at k m q) = λ j. (number j, value j) in
        drop_more (entries m) i (q, k.missing) within ∙ ap (λ (e : ℕ × R). e ∷ drop (i + 1) (entries m)) pair

    pub gained-at : (o : Option ℕ) (ls : List Live) → (k.common (record_at k m q)).notification ≡ o → gained_by k (drop i (entries m)) ls ≡ gained_by k (drop (i + 1) (entries m)) (gained_if o ls)
    gained-at o ls has = ap (λ (es : List (ℕ × R)). gained_by k es ls) entry-next ∙ ap (λ (x : Option ℕ). gained_by k (drop (i + 1) (entries m)) (gained_if x ls)) has

  -- There is an entry at each index below the length.
  pub none-past : (i : ℕ) → slice_get (keys m) i ≡ None → i < len m → ⊥
  none-past i none lt =
      let there : i < length (keys m) = omega (arith, lt, len-entries m, length-map (entries m) (λ e. e.0)) in
      none_some (slice_get (keys m) i) none (ap (λ (o : Option ℕ). is_some o) (slice_get-get_or (keys m) i 0 there))

  -- Past the last entry nothing is left to count.
  pub gained-past : (i : ℕ) (ls : List Live) → len m ≤ i → ls ≡ gained_by k (drop i (entries m)) ls
  gained-past i ls past = sym (ap (λ (es : List (ℕ × R)). gained_by k es ls) (drop_all i (entries m) (subst (λ (n : ℕ). n ≤ i) (len-entries m) past)))
