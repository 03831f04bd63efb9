-- All records of a set are changed in place.
use Rattle.std.proofs.Common.{◌≡◌, ℕ, zero, suc, ◌+◌, ◌<◌, ◌≤◌, List, [], ◌∷◌, ◌++◌, Option, Some, Bool, true, false, length, map, take, drop, set, get_or, cond, refl, sym, ap, ◌∙◌, append-nil, arith}
use Rattle.std.specs.Prelude.{◌==◌}
use Rattle.std.specs.Ordering.{nat_cmp}
use Rattle.std.specs.FinMap.{from_entries, entries, entries_sorted, from_sorted, entries-from_sorted, same_entries_map}
use Rattle.std.proofs.lemmas.List.{take_all, drop_all}
use Rattle.ioc_set_records.specs.declared.slots.Slot.{Slot}
use Rattle.ioc_set_records.specs.Changed.{slot_changed, all_changed}
use Rattle.ioc_set_records.specs.Contents.{Records}
use Rattle.ioc_set_records.specs.Twins.{one_if_unmarked, AreTracked}
use Rattle.std.specs.List.{sum_by, range_with_len}
use Rattle.std.proofs.lemmas.List.FromFn.{length-range_with_len, get_or-range_with_len}
use Rattle.std.proofs.lemmas.List.Sums.{sum_by-cons}
use Rattle.ioc_set_records.specs.Slots.{record_entry, base_entry, records_of, devices_of, bases_of, IsBelow, AreAscending}
use Rattle.std.proofs.Math.ListN.{length-map}
use Rattle.ioc_set_records.proofs.MapLaws.{one_map}
use Rattle.ioc_set_records.proofs.Merged.{written_over}
use Rattle.ioc_set_records.proofs.Slotted.{slot_at}
use Rattle.ioc_set_records.proofs.Seen.{device_in, get_device}
use Rattle.ioc_set_records.proofs.Ordered.{entries_are}

module _ {A : Type 0} (f : A → A) where
  -- One more item is changed in place.
  pub map_more : (xs : List A) (i : ℕ) (d : A) → i < length xs → set (map f (take i xs) ++ drop i xs) i (f (get_or xs i d)) ≡ map f (take (i + 1) xs) ++ drop (i + 1) xs
  map_more [] i d lt = absurd (omega arith)
  map_more (x ∷ xs) zero d lt = refl
  map_more (x ∷ xs) (suc i) d lt =
      let e : suc i + 1 ≡ suc (i + 1) = omega arith in
      let below : i < length xs = omega arith in
      rw e (ap (λ ys. f x ∷ ys) (map_more xs i d below))

  -- The first item that isn't changed yet is unchanged.
  pub get_more : (xs : List A) (i : ℕ) (d : A) → i < length xs → get_or (map f (take i xs) ++ drop i xs) i d ≡ get_or xs i d
  get_more [] i d lt = absurd (omega arith)
  get_more (x ∷ xs) zero d lt = refl
  get_more (x ∷ xs) (suc i) d lt = let below : i < length xs = omega arith in get_more xs i d below

  pub all_mapped : (xs : List A) (i : ℕ) → length xs ≤ i → map f (take i xs) ++ drop i xs ≡ map f xs
  all_mapped xs i past = rw (take_all i xs past, drop_all i xs past) (append-nil (map f xs))

-- A map is the map of its own entries.
sorted_again : {R : Type 0} (m : Records R) → m ≡ from_sorted (entries m)
sorted_again m = same_entries_map m (from_sorted (entries m)) (sym (entries-from_sorted nat_cmp (entries m) (entries_sorted m)))

module _ {R D : Type 0} (f : R → R) where
  abbrev changed : List (Slot R D) → List (Slot R D)
  changed ss = map (slot_changed f) ss

  below_changed : (n : ℕ) (ss : List (Slot R D)) → IsBelow n ss → IsBelow n (changed ss)
  below_changed n [] b = b
  below_changed n (s ∷ ss) b = (b.0, below_changed n ss b.1)

  pub ascending_changed : (ss : List (Slot R D)) → AreAscending ss → AreAscending (changed ss)
  ascending_changed [] up = up
  ascending_changed (s ∷ ss) up = (below_changed s.number ss up.0, ascending_changed ss up.1)

  entries_changed : (ss : List (Slot R D)) → map record_entry (changed ss) ≡ map (λ (e : ℕ × R). (e.0, f e.1)) (map record_entry ss)
  entries_changed [] = refl
  entries_changed (s ∷ ss) = ap (λ z. (s.number, f s.fields) ∷ z) (entries_changed ss)

  pub records_changed : (ss : List (Slot R D)) → AreAscending ss → records_of (changed ss) ≡ all_changed f (records_of ss)
  records_changed ss up =
      sorted_again (records_of (changed ss))
      ∙ ap from_sorted (entries_are (changed ss) (ascending_changed ss up) ∙ entries_changed ss ∙ ap (map (λ (e : ℕ × R). (e.0, f e.1))) (sym (entries_are ss up)))

  device_chosen : (b : Bool) (s : Slot R D) (o p : Option (Slot R D)) → device_in o ≡ device_in p → device_in (cond b (Some (slot_changed f s)) o) ≡ device_in (cond b (Some s) p)
  device_chosen true s o p e = refl
  device_chosen false s o p e = e

  same_device : (ss : List (Slot R D)) (q : ℕ) → device_in (slot_at (changed ss) q) ≡ device_in (slot_at ss q)
  same_device [] q = refl
  same_device (s ∷ ss) q = device_chosen (q == s.number) s (slot_at (changed ss) q) (slot_at ss q) (same_device ss q)

  pub devices_stay : (ss : List (Slot R D)) → AreAscending ss → devices_of (changed ss) ≡ devices_of ss
  devices_stay ss up = one_map _ _ (λ q. get_device (changed ss) q (ascending_changed ss up) ∙ same_device ss q ∙ sym (get_device ss q up))

  base_entries : (ss : List (Slot R D)) → map base_entry (changed ss) ≡ map base_entry ss
  base_entries [] = refl
  base_entries (s ∷ ss) = ap (λ z. base_entry s ∷ z) (base_entries ss)

  pub bases_stay : (ss : List (Slot R D)) → bases_of (changed ss) ≡ bases_of ss
  bases_stay ss = ap (λ (es : List (ℕ × R)). from_entries {R = nat_cmp} es) (base_entries ss)

  all_marked : (ss : List (Slot R D)) (j : ℕ) (s : Slot R D) → j < length (changed ss) → s ≡ get_or (changed ss) j s → s.is_changed ≡ true
  all_marked [] j s l at = absurd (omega arith)
  all_marked (t ∷ ss) zero s l at = ap (λ (z : Slot R D). z.is_changed) at
  all_marked (t ∷ ss) (suc j) s l at = all_marked ss j s (omega arith) at

  none_unmarked : (ss : List (Slot R D)) → sum_by one_if_unmarked (changed ss) ≡ 0
  none_unmarked [] = refl
  none_unmarked (s ∷ ss) = omega (arith, sum_by-cons one_if_unmarked (slot_changed f s) (changed ss), none_unmarked ss)

  -- All slots are marked, and all places are listed.
  pub changed_tracked : (ss : List (Slot R D)) → AreTracked (changed ss) (range_with_len 0 (length ss))
  changed_tracked ss =
      let n = length ss in
      let len : length (changed ss) ≡ n = length-map ss (slot_changed f) in
      let places = length-range_with_len 0 n in
      record {
        within = λ j c. let l = c.1 in let e = get_or-range_with_len 0 n c.0 j (omega arith) in let is = c.2 in omega arith;
        listed = λ j s l at e. (j, omega arith, get_or-range_with_len 0 n j j (omega arith) ∙ omega arith);
        same = λ j s l at e. absurd (let h : true ≡ false = sym (all_marked ss j s l at) ∙ e in cc);
        few = omega (arith, none_unmarked ss, places, len);
      }

  -- Writing over the whole list changes all slots.
  pub whole_list : (ss us new : List (Slot R D)) (n : ℕ) → us ≡ ss → new ≡ map (slot_changed f) us → n ≡ length ss → take n (new ++ drop (length new) ss) ≡ changed ss
  whole_list ss us new n same is len =
      let all : length new ≡ length ss = ap length is ∙ length-map us (slot_changed f) ∙ ap length same in
      written_over new ss n (omega arith) (omega arith) ∙ is ∙ ap (map (slot_changed f)) same

  abbrev with_fields : Slot R D → R → Slot R D
  with_fields s r = record { number = s.number; fields = r; base = s.base; is_changed = true; device = s.device }

  -- One more slot is changed in place.
  pub one_changed : (all slots : List (Slot R D)) (i : ℕ) (x : Slot R D) (r : R) → i < length all → slots ≡ map (slot_changed f) (take i all) ++ drop i all → x ≡ get_or slots i x → r ≡ f (get_or slots i x).fields
      → set slots i (with_fields (get_or slots i x) r) ≡ map (slot_changed f) (take (i + 1) all) ++ drop (i + 1) all
  one_changed all slots i x r l was at is =
      let here : x ≡ get_or all i x = at ∙ ap (λ z. get_or z i x) was ∙ get_more (slot_changed f) all i x l in
      let changed_here : with_fields (get_or slots i x) r ≡ slot_changed f (get_or all i x) =
      ap (with_fields (get_or slots i x)) is ∙ ap (λ s. with_fields s (f s.fields)) (sym at ∙ here) in
      ap (set slots i) changed_here ∙ ap (λ z. set z i (slot_changed f (get_or all i x))) was ∙ map_more (slot_changed f) all i x l
