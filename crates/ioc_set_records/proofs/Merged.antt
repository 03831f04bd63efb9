-- Slots of two sets in one order.
use Rattle.std.proofs.Common.{◌≡◌, ◌≢◌, ◌⊎◌, ℕ, suc, ◌<◌, List, [], ◌∷◌, ◌++◌, Option, Some, None, false, length, take, drop, get_or, refl, sym, ap, ◌∙◌, subst, inl, inr, ⊎_elim, arith, eqb}
use Rattle.std.specs.Prelude.{slice_index, Contains}
use Rattle.std.specs.FinMap.{get}
use Rattle.std.specs.List.{AllByRecursion, IsDistinct}
use Rattle.std.specs.List.Sorted.{IsNonDecreasingBy, IsNonDecreasing, IsPermutation}
use Rattle.std.proofs.lemmas.Bool.{cases_eq}
use Rattle.std.proofs.lemmas.Bool.Decides.{nat_tests}
use Rattle.std.proofs.lemmas.List.{take_all, drop_all, append-nil, get_or-map}
use Rattle.std.proofs.lemmas.List.Elements.{Contains-append_left, Contains-append_right, Contains-append_cases}
use Rattle.std.proofs.lemmas.List.Sorted.{Contains-permutation, IsPermutation-sym, IsPermutation-map}
use Rattle.std.proofs.lemmas.Map.Keys.{IsDistinct-cons, IsDistinct-IsPermutation, IsStrictlyIncreasing-from_distinct, sorted_from_strictly_increasing, below_from_sorted}
use Rattle.ioc_set_records.specs.declared.slots.Slot.{Slot}
use Rattle.ioc_set_records.specs.Slots.{records_of, devices_of, numbers_of, IsBelow, AreAscending}
use Rattle.ioc_set_records.specs.Joined.{AreShared}
use Rattle.ioc_set_records.proofs.Slotted.{same_Some, none_some, slot_at, slot_first, slot_later, length-numbers, found_number, below_found}
use Rattle.ioc_set_records.proofs.Seen.{shared_records, shared_devices}

-- Writing a list over one of equal length results in that list.
pub written_over : {X : Type 0} (new items : List X) (n : ℕ) → length new ≡ n → length items ≡ n → take n (new ++ drop (length new) items) ≡ new
written_over new items n e f =
    ap (λ z. take n (new ++ z)) (drop_all (length new) items (omega arith)) ∙ ap (take n) (append-nil new) ∙ take_all n new (omega arith)

eqb_flips : (x y : ℕ) → eqb x y ≡ eqb y x
eqb_flips x y = grind (arith, nat_tests)

differs : (x y : ℕ) → x ≢ y → eqb x y ≡ false
differs x y n = grind (arith, nat_tests)

distinct_none : IsDistinct eqb []
unfolding IsDistinct
distinct_none = tt

module _ {R D : Type 0} where
  -- Holds if no slot has this number.
  abbrev IsAbsent : ℕ → List (Slot R D) → Type 0
  IsAbsent n ss = AllByRecursion (λ y. eqb n y ≡ false) (numbers_of ss)

  absent_both : (n : ℕ) (ss ts : List (Slot R D)) → IsAbsent n ss → IsAbsent n ts → IsAbsent n (ss ++ ts)
  absent_both n [] ts a b = b
  absent_both n (s ∷ ss) ts a b = (a.0, absent_both n ss ts a.1 b)

  below_absent : (n : ℕ) (ss : List (Slot R D)) → IsBelow n ss → IsAbsent n ss
  below_absent n [] b = tt
  below_absent n (s ∷ ss) b = (differs n s.number (λ e. absurd (let l = b.0 in omega arith)), below_absent n ss b.1)

  unfound_absent : (n : ℕ) (ss : List (Slot R D)) → slot_at ss n ≡ None → IsAbsent n ss
  unfound_absent n [] e = tt
  unfound_absent n (s ∷ ss) e =
      let apart : n ≢ s.number = λ h. none_some s (sym e ∙ ap (slot_at (s ∷ ss)) h ∙ slot_first s ss) in
      (differs n s.number apart, unfound_absent n ss (sym (slot_later n s ss apart) ∙ e))

  -- Holds if no number is in both.
  abbrev pub AreApart : List (Slot R D) → List (Slot R D) → Type 0
  AreApart ss ts = (q : ℕ) (s : Slot R D) → slot_at ss q ≡ Some s → slot_at ts q ≡ None

  distinct_both : (ss ts : List (Slot R D)) → AreAscending ss → AreAscending ts → AreApart ss ts → IsDistinct eqb (numbers_of (ss ++ ts))
  distinct_both [] [] a b apart = distinct_none
  distinct_both [] (t ∷ ts) a b apart = IsDistinct-cons eqb t.number (numbers_of ts) (below_absent t.number ts b.0) (distinct_both [] ts a b.1 (λ q x e. absurd (none_some x e)))
  distinct_both (s ∷ ss) ts a b apart =
      IsDistinct-cons eqb s.number (numbers_of (ss ++ ts))
      (absent_both s.number ss ts (below_absent s.number ss a.0) (unfound_absent s.number ts (apart s.number s (slot_first s ss))))
      (distinct_both ss ts a.1 b (λ q x e.
      let l = below_found s.number ss q x a.0 e in
      apart q x (slot_later q s ss (λ h. absurd (omega arith)) ∙ e)))

  below_all : (n : ℕ) (ss : List (Slot R D)) → ((i : ℕ) → i < length ss → n < slice_index (numbers_of ss) i) → IsBelow n ss
  below_all n [] b = tt
  below_all n (s ∷ ss) b = (b 0 (omega arith), below_all n ss (λ i l. b (suc i) (omega arith)))

  ascending_all : (ss : List (Slot R D)) → ((i j : ℕ) → i < j → j < length ss → slice_index (numbers_of ss) i < slice_index (numbers_of ss) j) → AreAscending ss
  ascending_all [] r = tt
  ascending_all (s ∷ ss) r = (below_all s.number ss (λ i l. r 0 (suc i) (omega arith) (omega arith)), ascending_all ss (λ i j l lj. r (suc i) (suc j) (omega arith) (omega arith)))

  head_of : (ss : List (Slot R D)) (j : ℕ) → j < length ss → Slot R D
  head_of [] j l = absurd (omega arith)
  head_of (s ∷ ss) j l = s

  -- Slots in order whose numbers are distinct ascend.
  ascending_from : (ss : List (Slot R D)) → IsNonDecreasingBy (λ s. s.number) ss → IsDistinct eqb (numbers_of ss) → AreAscending ss
  ascending_from ss sorted distinct =
      let ns = numbers_of ss in
      let len = length-numbers ss in
      let order : IsNonDecreasing ns = λ i j d le lj.
      let s = head_of ss j (omega arith) in
      let a = get_or-map (λ (t : Slot R D). t.number) ss i s d (omega arith) in
      let b = get_or-map (λ (t : Slot R D). t.number) ss j s d (omega arith) in
      let c = sorted i j s le (omega arith) in omega arith in
      let up = sorted_from_strictly_increasing ns (IsStrictlyIncreasing-from_distinct ns order distinct) in
      ascending_all ss (λ i j l lj. below_from_sorted ns i j 0 up l (omega arith))

  -- A slot that is found is in the list.
  found_in : (q : ℕ) (ss : List (Slot R D)) (s : Slot R D) → slot_at ss q ≡ Some s → Contains ss s
  found_in q [] s e = absurd (none_some s e)
  found_in q (t ∷ ss) s e =
      ⊎_elim
      (λ (h : q ≡ t.number). (0, omega arith, same_Some t s (sym (slot_first t ss) ∙ ap (slot_at (t ∷ ss)) (sym h) ∙ e)))
      (λ n. Contains-append_right (t ∷ []) ss s (found_in q ss s (sym (slot_later q t ss n) ∙ e)))
      (cases_eq q t.number)

  below_in : (n : ℕ) (ss : List (Slot R D)) (s : Slot R D) → IsBelow n ss → Contains ss s → n < s.number
  below_in n [] s b c = absurd (let l = c.1 in omega arith)
  below_in n (t ∷ ss) s b c =
      ⊎_elim
      (λ h. subst (λ (z : Slot R D). n < z.number) (lone t s h) b.0)
      (λ d. below_in n ss s b.1 d)
      (Contains-append_cases (t ∷ []) ss s c)
    where
      lone : (x y : Slot R D) → Contains (x ∷ []) y → x ≡ y
      lone x y (k, l, e) = sym (ap (λ i. get_or (x ∷ []) i y) (let z : k ≡ 0 = omega arith in z)) ∙ e

  in_found : (ss : List (Slot R D)) (s : Slot R D) → AreAscending ss → Contains ss s → slot_at ss s.number ≡ Some s
  in_found [] s up c = absurd (let l : c.0 < 0 = c.1 in omega arith)
  in_found (t ∷ ss) s up c =
      ⊎_elim
      (λ h. subst (λ (z : Slot R D). slot_at (t ∷ ss) z.number ≡ Some z) (lone t s h) (slot_first t ss))
      (λ d.
      let l = below_in t.number ss s up.0 d in
      slot_later s.number t ss (λ e. absurd (omega arith)) ∙ in_found ss s up.1 d)
      (Contains-append_cases (t ∷ []) ss s c)
    where
      lone : (x y : Slot R D) → Contains (x ∷ []) y → x ≡ y
      lone x y (k, l, e) = sym (ap (λ i. get_or (x ∷ []) i y) (let z : k ≡ 0 = omega arith in z)) ∙ e

  module _ (ss ts all : List (Slot R D)) (a : AreAscending ss) (b : AreAscending ts) (apart : AreApart ss ts) (moved : IsPermutation (ss ++ ts) all) (sorted : IsNonDecreasingBy (λ s. s.number) all) where
    pub all_ascending : AreAscending all
    all_ascending =
        ascending_from all sorted
        (IsDistinct-IsPermutation eqb eqb_flips (numbers_of (ss ++ ts)) (numbers_of all) (IsPermutation-map (λ (s : Slot R D). s.number) (ss ++ ts) all moved) (distinct_both ss ts a b apart))

    found_left : (q : ℕ) (s : Slot R D) → slot_at ss q ≡ Some s → slot_at all q ≡ Some s
    found_left q s e =
        ap (slot_at all) (sym (found_number ss q s e))
        ∙ in_found all s all_ascending (Contains-permutation (ss ++ ts) all s moved (Contains-append_left ss ts s (found_in q ss s e)))

    found_right : (q : ℕ) (s : Slot R D) → slot_at ts q ≡ Some s → slot_at all q ≡ Some s
    found_right q s e =
        ap (slot_at all) (sym (found_number ts q s e))
        ∙ in_found all s all_ascending (Contains-permutation (ss ++ ts) all s moved (Contains-append_right ss ts s (found_in q ts s e)))

    unfound : (q : ℕ) → slot_at ss q ≡ None → slot_at ts q ≡ None → slot_at all q ≡ None
    unfound q e f = told (slot_at all q) refl
      where
        told : (o : Option (Slot R D)) → slot_at all q ≡ o → o ≡ None
        told None g = refl
        told (Some s) g =
            let is = found_number all q s g in
            absurd (
            ⊎_elim
            (λ c. none_some s (sym e ∙ ap (slot_at ss) (sym is) ∙ in_found ss s a c))
            (λ c. none_some s (sym f ∙ ap (slot_at ts) (sym is) ∙ in_found ts s b c))
            (Contains-append_cases ss ts s (Contains-permutation all (ss ++ ts) s (IsPermutation-sym (ss ++ ts) all moved) (found_in q all s g))))

    shared_slots : AreShared (slot_at all) (slot_at ss) (slot_at ts)
    shared_slots q = told (slot_at ss q) (slot_at ts q) refl refl
      where
        told : (o p : Option (Slot R D)) → slot_at ss q ≡ o → slot_at ts q ≡ p
            → ((slot_at ss q ≡ slot_at all q) × (slot_at ts q ≡ None)) ⊎ ((slot_at ss q ≡ None) × (slot_at ts q ≡ slot_at all q))
        told (Some s) p e f = inl (e ∙ sym (found_left q s e), apart q s e)
        told None (Some t) e f = inr (e, f ∙ sym (found_right q t f))
        told None None e f = inr (e, f ∙ sym (unfound q e f))

    pub shared_all : AreShared (get (records_of all)) (get (records_of ss)) (get (records_of ts))
    shared_all = shared_records all ss ts shared_slots

    pub devices_all : AreShared (get (devices_of all)) (get (devices_of ss)) (get (devices_of ts))
    devices_all = shared_devices all ss ts shared_slots all_ascending a b
