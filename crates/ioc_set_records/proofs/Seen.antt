-- The maps that slots represent, by the slot of a number.
use Rattle.std.proofs.Common.{◌≡◌, ◌≢◌, ℕ, ◌<◌, List, [], ◌∷◌, ◌++◌, Option, Some, None, Bool, true, false, length, map, set, get_or, cond, filter_map, refl, sym, ap, ◌∙◌, inl, inr, ⊎_elim, arith}
use Rattle.std.specs.Prelude.{slice_index, IsSome, is_some, ◌==◌}
use Rattle.std.specs.Option.{option_map}
use Rattle.std.specs.List.{cons_option}
use Rattle.std.specs.Ordering.{nat_cmp}
use Rattle.std.specs.FinMap.{get, insert, find}
use Rattle.std.proofs.lemmas.Bool.{cases_eq}
use Rattle.ioc_set_records.specs.declared.slots.Slot.{Slot}
use Rattle.ioc_set_records.specs.Contents.{Contents, with_device, DevicesAreOwned}
use Rattle.ioc_set_records.specs.Joined.{AreShared}
use Rattle.ioc_set_records.specs.Slots.{record_entry, device_entry, records_of, devices_of, contents_of, numbers_of, AreAscending}
use Rattle.ioc_set_records.proofs.MapLaws.{tied, same_number, other_number, get_inserted, get_made, found_first, found_later, one_map}
use Rattle.ioc_set_records.proofs.Slotted.{slot_at, slot_first, slot_later, slot_there, none_there, none_below, slot_set, slot_push, ascending_set, ascending_push}

-- A part of each slot, as the map of these parts has it.
module _ {R D : Type 0} (part : Slot R D → R) where
  pub part_chosen : (b : Bool) (s : Slot R D) (o : Option (Slot R D)) → option_map part (cond b (Some s) o) ≡ cond b (Some (part s)) (option_map part o)
  part_chosen true s o = refl
  part_chosen false s o = refl

  pub found_part : (ss : List (Slot R D)) (q : ℕ) → find nat_cmp q (map (λ s. (s.number, part s)) ss) ≡ option_map part (slot_at ss q)
  found_part [] q = refl
  found_part (s ∷ ss) q =
      ap (λ b. cond b (Some (part s)) (find nat_cmp q (map (λ t. (t.number, part t)) ss))) (tied q s.number) ∙ ap (cond (q == s.number) (Some (part s))) (found_part ss q)
      ∙ sym (part_chosen (q == s.number) s (slot_at ss q))

module _ {R D : Type 0} where
  -- The record in a slot, and its device.
  abbrev pub record_in : Option (Slot R D) → Option R
  record_in o = option_map (λ s. s.fields) o

  abbrev pub device_in : Option (Slot R D) → Option D
  device_in None = None
  device_in (Some s) = s.device

  device_chosen : (b : Bool) (s : Slot R D) (o : Option (Slot R D)) → device_in (cond b (Some s) o) ≡ cond b s.device (device_in o)
  device_chosen true s o = refl
  device_chosen false s o = refl

  pub get_record : (ss : List (Slot R D)) (q : ℕ) → get (records_of ss) q ≡ record_in (slot_at ss q)
  get_record ss q = get_made (map record_entry ss) q ∙ found_part (λ (s : Slot R D). s.fields) ss q

  abbrev entries : List (Slot R D) → List (ℕ × D)
  entries ss = filter_map device_entry ss

  skips : (q : ℕ) (s : Slot R D) (ss : List (Slot R D)) → q ≢ s.number → find nat_cmp q (entries (s ∷ ss)) ≡ find nat_cmp q (entries ss)
  skips q s ss apart =
      elim s.device as (λ (o : Option D). find nat_cmp q (cons_option (option_map (λ d. (s.number, d)) o) (entries ss)) ≡ find nat_cmp q (entries ss)) [
        | None ↦ refl
        | Some d ↦ found_later q s.number d (entries ss) apart
      ]

  stops : (s : Slot R D) (ss : List (Slot R D)) → find nat_cmp s.number (entries ss) ≡ None → find nat_cmp s.number (entries (s ∷ ss)) ≡ s.device
  stops s ss none =
      elim s.device as (λ (o : Option D). find nat_cmp s.number (cons_option (option_map (λ d. (s.number, d)) o) (entries ss)) ≡ o) [
        | None ↦ none
        | Some d ↦ found_first s.number d (entries ss)
      ]

  found_device : (ss : List (Slot R D)) (q : ℕ) → AreAscending ss → find nat_cmp q (entries ss) ≡ device_in (slot_at ss q)
  found_device [] q up = refl
  found_device (s ∷ ss) q up =
      ⊎_elim
      (λ (e : q ≡ s.number).
      ap (λ n. find nat_cmp n (entries (s ∷ ss))) e ∙ stops s ss (found_device ss s.number up.1 ∙ ap device_in (none_below s.number ss up.0))
      ∙ sym (ap (λ n. device_in (slot_at (s ∷ ss) n)) e ∙ ap device_in (slot_first s ss)))
      (λ a. skips q s ss a ∙ found_device ss q up.1 ∙ sym (ap device_in (slot_later q s ss a)))
      (cases_eq q s.number)

  pub get_device : (ss : List (Slot R D)) (q : ℕ) → AreAscending ss → get (devices_of ss) q ≡ device_in (slot_at ss q)
  get_device ss q up = get_made (entries ss) q ∙ found_device ss q up

  owner : (o : Option (Slot R D)) → IsSome (device_in o) → IsSome (record_in o)
  owner None s = s
  owner (Some s) d = refl

  pub owned : (ss : List (Slot R D)) → AreAscending ss → DevicesAreOwned (contents_of ss)
  owned ss up q has = ap is_some (get_record ss q) ∙ owner (slot_at ss q) (ap is_some (sym (get_device ss q up)) ∙ has)

  -- The maps at the number of a slot.
  pub record_there : (ss : List (Slot R D)) (i n : ℕ) (s : Slot R D) → AreAscending ss → i < length ss → slice_index (numbers_of ss) i ≡ n → get (records_of ss) n ≡ Some (get_or ss i s).fields
  record_there ss i n s up l e = get_record ss n ∙ ap (λ m. record_in (slot_at ss m)) (sym e) ∙ ap record_in (slot_there ss i s up l)

  pub device_there : (ss : List (Slot R D)) (i n : ℕ) (s : Slot R D) → AreAscending ss → i < length ss → slice_index (numbers_of ss) i ≡ n → get (devices_of ss) n ≡ (get_or ss i s).device
  device_there ss i n s up l e = get_device ss n up ∙ ap (λ m. device_in (slot_at ss m)) (sym e) ∙ ap device_in (slot_there ss i s up l)

  pub record_absent : (ss : List (Slot R D)) (n : ℕ) → ((i : ℕ) → i < length ss → slice_index (numbers_of ss) i ≢ n) → get (records_of ss) n ≡ None
  record_absent ss n absent = get_record ss n ∙ ap record_in (none_there ss n absent)

  pub device_absent : (ss : List (Slot R D)) (n : ℕ) → AreAscending ss → ((i : ℕ) → i < length ss → slice_index (numbers_of ss) i ≢ n) → get (devices_of ss) n ≡ None
  device_absent ss n up absent = get_device ss n up ∙ ap device_in (none_there ss n absent)

  -- Replacing a slot with one of the same number.
  module _ (ss : List (Slot R D)) (i : ℕ) (t : Slot R D) (n : ℕ) (up : AreAscending ss) (l : i < length ss) (e : t.number ≡ slice_index (numbers_of ss) i) (is : n ≡ t.number) where
    set_up : AreAscending (set ss i t)
    set_up = ascending_set ss i t l e up

    pub records_set : records_of (set ss i t) ≡ insert (records_of ss) n t.fields
    records_set =
        one_map _ _ (λ q. get_record (set ss i t) q ∙ ap record_in (slot_set ss i t q up l e) ∙ part_chosen (λ (s : Slot R D). s.fields) (q == t.number) t (slot_at ss q) ∙ ap (λ m. cond (q == m) (Some t.fields) (record_in (slot_at ss q))) (sym is)
        ∙ ap (cond (q == n) (Some t.fields)) (sym (get_record ss q)) ∙ sym (get_inserted (records_of ss) n t.fields q))

    device_now : (q : ℕ) → get (devices_of (set ss i t)) q ≡ cond (q == n) t.device (get (devices_of ss) q)
    device_now q =
        get_device (set ss i t) q set_up ∙ ap device_in (slot_set ss i t q up l e) ∙ device_chosen (q == t.number) t (slot_at ss q) ∙ ap (λ m. cond (q == m) t.device (device_in (slot_at ss q))) (sym is)
        ∙ ap (cond (q == n) t.device) (sym (get_device ss q up))

    pub devices_set : (d : D) → t.device ≡ Some d → devices_of (set ss i t) ≡ insert (devices_of ss) n d
    devices_set d has = one_map _ _ (λ q. device_now q ∙ ap (λ o. cond (q == n) o (get (devices_of ss) q)) has ∙ sym (get_inserted (devices_of ss) n d q))

    pub devices_same : t.device ≡ get (devices_of ss) n → devices_of (set ss i t) ≡ devices_of ss
    devices_same same =
        one_map _ _ (λ q. device_now q ∙ ⊎_elim
        (λ (h : q ≡ n). ap (λ b. cond b t.device (get (devices_of ss) q)) (same_number q n h) ∙ same ∙ ap (get (devices_of ss)) (sym h))
        (λ a. ap (λ b. cond b t.device (get (devices_of ss) q)) (other_number q n a))
        (cases_eq q n))

    pub records_same : Some t.fields ≡ get (records_of ss) n → records_of (set ss i t) ≡ records_of ss
    records_same same =
        records_set ∙ one_map _ _ (λ q. get_inserted (records_of ss) n t.fields q ∙ ⊎_elim
        (λ (h : q ≡ n). ap (λ b. cond b (Some t.fields) (get (records_of ss) q)) (same_number q n h) ∙ same ∙ ap (get (records_of ss)) (sym h))
        (λ a. ap (λ b. cond b (Some t.fields) (get (records_of ss) q)) (other_number q n a))
        (cases_eq q n))

  -- Adding a record with a higher number at the end.
  module _ (ss : List (Slot R D)) (m : Contents R D) (s : Slot R D) (up : AreAscending ss) (is : contents_of ss ≡ m) (above : (q : ℕ) → IsSome (get m.records q) → q < s.number) where
    all_below : (i : ℕ) → i < length ss → slice_index (numbers_of ss) i < s.number
    all_below i l = above (slice_index (numbers_of ss) i) (ap (λ (k : Contents R D). is_some (get k.records (slice_index (numbers_of ss) i))) (sym is) ∙ ap is_some (record_there ss i (slice_index (numbers_of ss) i) s up l refl))

    pub pushed_ascending : AreAscending (ss ++ s ∷ [])
    pushed_ascending = ascending_push ss s up all_below

    pub pushed_records : records_of (ss ++ s ∷ []) ≡ insert m.records s.number s.fields
    pushed_records =
        one_map _ _ (λ q. get_record (ss ++ s ∷ []) q ∙ ap record_in (slot_push ss s q all_below) ∙ part_chosen (λ (s : Slot R D). s.fields) (q == s.number) s (slot_at ss q)
        ∙ ap (cond (q == s.number) (Some s.fields)) (sym (get_record ss q) ∙ ap (λ (k : Contents R D). get k.records q) is) ∙ sym (get_inserted m.records s.number s.fields q))

    device_more : (q : ℕ) (o : Option D) → o ≡ s.device → cond (q == s.number) o (get m.devices q) ≡ get (with_device m.devices s.number o) q
    device_more q (Some d) e = sym (get_inserted m.devices s.number d q)
    device_more q None e =
        ⊎_elim
        (λ (h : q ≡ s.number). ap (λ b. cond b None (get m.devices q)) (same_number q s.number h) ∙ sym (
        ap (λ (k : Contents R D). get k.devices q) (sym is) ∙ ap (get (devices_of ss)) h
        ∙ device_absent ss s.number up (λ i l e. absurd (let b = all_below i l in omega arith))))
        (λ a. ap (λ b. cond b None (get m.devices q)) (other_number q s.number a))
        (cases_eq q s.number)

    pub pushed_devices : devices_of (ss ++ s ∷ []) ≡ with_device m.devices s.number s.device
    pushed_devices =
        one_map _ _ (λ q. get_device (ss ++ s ∷ []) q pushed_ascending ∙ ap device_in (slot_push ss s q all_below) ∙ device_chosen (q == s.number) s (slot_at ss q)
        ∙ ap (cond (q == s.number) s.device) (sym (get_device ss q up) ∙ ap (λ (k : Contents R D). get k.devices q) is) ∙ device_more q s.device refl)

-- If slots are shared, so are both maps.
shared_by : {X Y : Type 0} (part : Option X → Option Y) → part None ≡ None → (f g h : ℕ → Option X) → AreShared f g h → AreShared (λ q. part (f q)) (λ q. part (g q)) (λ q. part (h q))
shared_by part none f g h shared q =
    ⊎_elim
    (λ s. inl (ap part s.0, ap part s.1 ∙ none))
    (λ s. inr (ap part s.0 ∙ none, ap part s.1))
    (shared q)

moved_to : {Y : Type 0} (f g h f' g' h' : ℕ → Option Y) → ((q : ℕ) → f' q ≡ f q) → ((q : ℕ) → g' q ≡ g q) → ((q : ℕ) → h' q ≡ h q) → AreShared f g h → AreShared f' g' h'
moved_to f g h f' g' h' ef eg eh shared q =
    ⊎_elim
    (λ s. inl (eg q ∙ s.0 ∙ sym (ef q), eh q ∙ s.1))
    (λ s. inr (eg q ∙ s.0, eh q ∙ s.1 ∙ sym (ef q)))
    (shared q)

module _ {R D : Type 0} (all ss ts : List (Slot R D)) (shared : AreShared (slot_at all) (slot_at ss) (slot_at ts)) where
  pub shared_records : AreShared (get (records_of all)) (get (records_of ss)) (get (records_of ts))
  shared_records = moved_to _ _ _ _ _ _ (get_record all) (get_record ss) (get_record ts) (shared_by record_in refl (slot_at all) (slot_at ss) (slot_at ts) shared)

  pub shared_devices : AreAscending all → AreAscending ss → AreAscending ts → AreShared (get (devices_of all)) (get (devices_of ss)) (get (devices_of ts))
  shared_devices a b c =
      moved_to _ _ _ _ _ _ (λ q. get_device all q a) (λ q. get_device ss q b) (λ q. get_device ts q c) (shared_by device_in refl (slot_at all) (slot_at ss) (slot_at ts) shared)
