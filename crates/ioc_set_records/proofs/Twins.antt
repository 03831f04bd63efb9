-- The slots with their bases: what they represent, and what is changed or folded of them.
use Rattle.std.proofs.Common.{◌≡◌, ◌≢◌, ℕ, zero, suc, ◌<◌, ◌≤◌, ◌+◌, List, [], ◌∷◌, ◌++◌, Option, Some, None, Bool, true, false, length, map, set, get_or, cond, filter_map, refl, sym, ap, ◌∙◌, subst, ⊎_elim, arith}
use Rattle.std.specs.Prelude.{Result, Ok, Err, OnErr, slice_index, IsSome, is_some, unwrap_or, ◌==◌, Contains}
use Rattle.std.specs.List.{sum_by, cons_option, range_with_len}
use Rattle.std.specs.Option.{option_map}
use Rattle.std.specs.Ordering.{nat_cmp}
use Rattle.std.specs.FinMap.{get, insert, from_entries}
use Rattle.std.specs.List.Sorted.{IsPermutation}
use Rattle.std.proofs.lemmas.List.Sorted.{IsPermutation-sym, Contains-permutation}
use Rattle.std.proofs.lemmas.Bool.{cases_eq}
use Rattle.std.proofs.lemmas.List.{get_or-set_same, get_or-set_other, set-get_or, length-set, length_push, get_or_append_left}
use Rattle.std.proofs.lemmas.List.Sums.{sum_by-cons, sum_by-set, sum_by_push}
use Rattle.std.proofs.lemmas.List.Elements.{Contains-append_left, Contains-append_right, Contains-append_cases, Contains-push}
use Rattle.std.proofs.Math.Seq.{map-set_same, get_or-append_seam}
use Rattle.std.proofs.Math.ListN.{length-map}
use Rattle.ioc_record.specs.RecordRules.{RecordRules}
use Rattle.ioc_fields.specs.declared.field_no.FieldNo.{FieldNo}
use Rattle.ioc_dbcommon.specs.declared.link_field.LinkField.{LinkField}
use Rattle.ioc_set_records.specs.declared.slots.Slot.{Slot}
use Rattle.ioc_set_records.specs.Contents.{Records, Contents, record_at, RecordsAreLikeTheirBase, BaseHasTheSame}
use Rattle.ioc_set_records.specs.Slots.{record_entry, device_entry, base_entry, records_of, devices_of, bases_of, contents_of, numbers_of, IsBelow, AreAscending}
use Rattle.ioc_set_records.specs.Twins.{slot_folded, slot_marked, slots_marked, one_if_unmarked, AreFolded, AreTracked, AreKept, AllLikeTheirBases}
use Rattle.ioc_set_records.specs.Edges.{slots_relinked}
use Rattle.ioc_set_records.specs.Dealt.{dealt}
use Rattle.ioc_set_records.proofs.MapLaws.{get_made, one_map, get_inserted}
use Rattle.ioc_set_records.proofs.Slotted.{slot_at, slot_there, slot_push}
use Rattle.ioc_set_records.proofs.Seen.{record_in, record_there, get_record, part_chosen, found_part}

at_most : (b : Bool) → cond b 0 1 ≤ 1
at_most true = omega arith
at_most false = omega arith

pub lone_in : (i j : ℕ) → Contains (i ∷ []) j → j ≡ i
lone_in i j c = sym (sym (ap (λ q. get_or (i ∷ []) q j) (let l = c.1 in let z : c.0 ≡ 0 = omega arith in z)) ∙ c.2)

-- A fact holds in particular if an operation fails.
pub where_refused : {T E P : Type 0} (r : Result T E) → P → OnErr r P
where_refused (Ok x) p = tt
where_refused (Err e) p = p

pub empty_by : {X : Type 0} (xs : List X) → length xs ≡ 0 → xs ≡ []
empty_by [] e = refl
empty_by (x ∷ xs) e = absurd (omega arith)

-- A range with one more number.
pub range_more : (a n : ℕ) → range_with_len a (n + 1) ≡ range_with_len a n ++ (a + n) ∷ []
range_more a zero = ap (λ x. x ∷ []) (omega arith)
range_more a (suc n) =
    let e : suc n + 1 ≡ suc (n + 1) = omega arith in
    let f : (a + 1) + n ≡ a + suc n = omega arith in
    ap (range_with_len a) e ∙ ap (λ z. a ∷ z) (range_more (a + 1) n) ∙ ap (λ x. a ∷ (range_with_len (a + 1) n ++ x ∷ [])) f

module _ {R D : Type 0} where
  -- The base in a slot.
  abbrev pub base_in : Option (Slot R D) → Option R
  base_in o = option_map (λ s. s.base) o

  pub get_base : (ss : List (Slot R D)) (q : ℕ) → get (bases_of ss) q ≡ base_in (slot_at ss q)
  get_base ss q = get_made (map base_entry ss) q ∙ found_part (λ (s : Slot R D). s.base) ss q

  pub base_there : (ss : List (Slot R D)) (i n : ℕ) (s : Slot R D) → AreAscending ss → i < length ss → slice_index (numbers_of ss) i ≡ n → get (bases_of ss) n ≡ Some (get_or ss i s).base
  base_there ss i n s up l e = get_base ss n ∙ ap (λ m. base_in (slot_at ss m)) (sym e) ∙ ap base_in (slot_there ss i s up l)

  both_there : (o : Option (Slot R D)) → is_some (base_in o) ≡ is_some (record_in o)
  both_there None = refl
  both_there (Some s) = refl

  pub bases_there : (ss : List (Slot R D)) → BaseHasTheSame (contents_of ss)
  bases_there ss q = ap is_some (get_base ss q) ∙ both_there (slot_at ss q) ∙ sym (ap is_some (get_record ss q))

  -- Replacing a slot with one of the same number and base keeps the bases.
  pub bases_set : (ss : List (Slot R D)) (i : ℕ) (t s : Slot R D) → s ≡ get_or ss i s → t.number ≡ s.number → t.base ≡ s.base → bases_of (set ss i t) ≡ bases_of ss
  bases_set ss i t s at n b =
      let same : base_entry t ≡ base_entry s = λ j. (n j, b j) in
      ap (λ (es : List (ℕ × R)). from_entries {R = nat_cmp} es) (map-set_same base_entry ss i t s (same ∙ ap base_entry at))

  pub pushed_bases : (ss : List (Slot R D)) (m : Contents R D) (s : Slot R D) → AreAscending ss → contents_of ss ≡ m → ((q : ℕ) → IsSome (get m.records q) → q < s.number)
      → bases_of (ss ++ s ∷ []) ≡ insert m.base s.number s.base
  pushed_bases ss m s up is above =
      let low : (i : ℕ) → i < length ss → slice_index (numbers_of ss) i < s.number =
      λ i l. above (slice_index (numbers_of ss) i) (ap (λ (k : Contents R D). is_some (get k.records (slice_index (numbers_of ss) i))) (sym is) ∙ ap is_some (record_there ss i (slice_index (numbers_of ss) i) s up l refl)) in
      one_map _ _ (λ q. get_base (ss ++ s ∷ []) q ∙ ap base_in (slot_push ss s q low) ∙ part_chosen (λ (s : Slot R D). s.base) (q == s.number) s (slot_at ss q)
      ∙ ap (cond (q == s.number) (Some s.base)) (sym (get_base ss q) ∙ ap (λ (k : Contents R D). get k.base q) is) ∙ sym (get_inserted m.base s.number s.base q))

  -- Two lists of slots that represent the same contents.
  same_contents : (ss ts : List (Slot R D)) → map record_entry ss ≡ map record_entry ts → filter_map device_entry ss ≡ filter_map device_entry ts → map base_entry ss ≡ map base_entry ts
      → contents_of ss ≡ contents_of ts
  same_contents ss ts r d b =
      let rs : records_of ss ≡ records_of ts = ap (λ (es : List (ℕ × R)). from_entries {R = nat_cmp} es) r in
      let ds : devices_of ss ≡ devices_of ts = ap (λ (es : List (ℕ × D)). from_entries {R = nat_cmp} es) d in
      let bs : bases_of ss ≡ bases_of ts = ap (λ (es : List (ℕ × R)). from_entries {R = nat_cmp} es) b in
      λ j. record { records = rs j; devices = ds j; base = bs j }

  -- The slots, folded.
  abbrev folded : List (Slot R D) → List (Slot R D)
  folded ss = map slot_folded ss

  below_folded : (n : ℕ) (ss : List (Slot R D)) → IsBelow n ss → IsBelow n (folded ss)
  below_folded n [] b = b
  below_folded n (s ∷ ss) b = (b.0, below_folded n ss b.1)

  pub ascending_folded : (ss : List (Slot R D)) → AreAscending ss → AreAscending (folded ss)
  ascending_folded [] up = up
  ascending_folded (s ∷ ss) up = (below_folded s.number ss up.0, ascending_folded ss up.1)

  records_same : (ss : List (Slot R D)) → map record_entry (folded ss) ≡ map record_entry ss
  records_same [] = refl
  records_same (s ∷ ss) = ap (λ z. record_entry s ∷ z) (records_same ss)

  bases_folded : (ss : List (Slot R D)) → map base_entry (folded ss) ≡ map record_entry ss
  bases_folded [] = refl
  bases_folded (s ∷ ss) = ap (λ z. record_entry s ∷ z) (bases_folded ss)

  devices_same : (ss : List (Slot R D)) → filter_map device_entry (folded ss) ≡ filter_map device_entry ss
  devices_same [] = refl
  devices_same (s ∷ ss) = ap (cons_option (device_entry s)) (devices_same ss)

  pub folded_contents : (ss : List (Slot R D)) → contents_of (folded ss) ≡ record (contents_of ss) { base = records_of ss }
  folded_contents ss =
      let rs : records_of (folded ss) ≡ records_of ss = ap (λ (es : List (ℕ × R)). from_entries {R = nat_cmp} es) (records_same ss) in
      let ds : devices_of (folded ss) ≡ devices_of ss = ap (λ (es : List (ℕ × D)). from_entries {R = nat_cmp} es) (devices_same ss) in
      let bs : bases_of (folded ss) ≡ records_of ss = ap (λ (es : List (ℕ × R)). from_entries {R = nat_cmp} es) (bases_folded ss) in
      λ j. record { records = rs j; devices = ds j; base = bs j }

  pub are_folded : (ss : List (Slot R D)) → AreFolded (folded ss)
  are_folded [] = tt
  are_folded (s ∷ ss) = (refl, refl, are_folded ss)

  base_entries : (ss : List (Slot R D)) → AreFolded ss → map base_entry ss ≡ map record_entry ss
  base_entries [] f = refl
  base_entries (s ∷ ss) f = ap (λ b. (s.number, b) ∷ map base_entry ss) f.0 ∙ ap (λ z. record_entry s ∷ z) (base_entries ss f.2)

  pub base_is_records : (ss : List (Slot R D)) → AreFolded ss → bases_of ss ≡ records_of ss
  base_is_records ss f = ap (λ (es : List (ℕ × R)). from_entries {R = nat_cmp} es) (base_entries ss f)

  folded_at : (ss : List (Slot R D)) (i : ℕ) (s : Slot R D) → AreFolded ss → i < length ss → s ≡ get_or ss i s → (s.base ≡ s.fields) × (s.is_changed ≡ false)
  folded_at [] i s f l at = absurd (omega arith)
  folded_at (t ∷ ss) zero s f l at = subst (λ (z : Slot R D). (z.base ≡ z.fields) × (z.is_changed ≡ false)) (sym at) (f.0, f.1)
  folded_at (t ∷ ss) (suc i) s f l at = folded_at ss i s f.2 (omega arith) at

  few_unmarked : (ss : List (Slot R D)) → sum_by one_if_unmarked ss ≤ length ss
  few_unmarked [] = omega arith
  few_unmarked (s ∷ ss) = omega (arith, sum_by-cons one_if_unmarked s ss, few_unmarked ss, at_most s.is_changed)

  pub folded_tracked : (ss : List (Slot R D)) → AreFolded ss → AreTracked ss []
  folded_tracked ss f = record {
    within = λ i c. absurd (let l : c.0 < 0 = c.1 in omega arith);
    listed = λ i s l at e. absurd (let h : false ≡ true = sym (folded_at ss i s f l at).1 ∙ e in cc);
    same = λ i s l at e. (folded_at ss i s f l at).0;
    few = omega (arith, few_unmarked ss);
  }

  -- Folded slots stay folded when they are concatenated.
  pub append_folded : (ss ts : List (Slot R D)) → AreFolded ss → AreFolded ts → AreFolded (ss ++ ts)
  append_folded [] ts f g = g
  append_folded (s ∷ ss) ts f g = (f.0, f.1, append_folded ss ts f.2 g)

  pub relinked_folded : (k : RecordRules R) (ss : List (Slot R D)) (i : ℕ) (field : FieldNo) (link : LinkField) → AreFolded ss → AreFolded (slots_relinked k ss i field link)
  relinked_folded k [] i field link f = f
  relinked_folded k (s ∷ ss) zero field link f = (ap (λ r. k.with_link r field link) f.0, f.1, f.2)
  relinked_folded k (s ∷ ss) (suc i) field link f = (f.0, f.1, relinked_folded k ss i field link f.2)

  chosen_folded : (b : Bool) (s : Slot R D) (ss : List (Slot R D)) → s.base ≡ s.fields → s.is_changed ≡ false → AreFolded ss → AreFolded (cond b (s ∷ ss) ss)
  chosen_folded true s ss e f g = (e, f, g)
  chosen_folded false s ss e f g = g

  pub dealt_folded : (p : ℕ → Bool) (ns : List ℕ) (ss : List (Slot R D)) → AreFolded ss → AreFolded (dealt p ns ss)
  dealt_folded p [] ss f = tt
  dealt_folded p (n ∷ ns) [] f = tt
  dealt_folded p (n ∷ ns) (s ∷ ss) f = chosen_folded (p n) s (dealt p ns ss) f.0 f.1 (dealt_folded p ns ss f.2)

  all_folded : (ss : List (Slot R D)) → ((s : Slot R D) → Contains ss s → (s.base ≡ s.fields) × (s.is_changed ≡ false)) → AreFolded ss
  all_folded [] f = tt
  all_folded (s ∷ ss) f = let h = f s (0, omega arith, refl) in (h.0, h.1, all_folded ss (λ t c. f t (Contains-append_right (s ∷ []) ss t c)))

  pub permuted_folded : (ss ts : List (Slot R D)) → IsPermutation ss ts → AreFolded ss → AreFolded ts
  permuted_folded ss ts moved f = all_folded ts (λ s c. let d = Contains-permutation ts ss s (IsPermutation-sym ss ts moved) c in folded_at ss d.0 s f d.1 (sym d.2))

  -- Marking a slot keeps the number of slots.
  pub length-marked : (ss : List (Slot R D)) (i : ℕ) → length (slots_marked ss i) ≡ length ss
  length-marked [] i = refl
  length-marked (s ∷ ss) zero = refl
  length-marked (s ∷ ss) (suc i) = ap suc (length-marked ss i)

  pub numbers_marked : (ss : List (Slot R D)) (i : ℕ) → numbers_of (slots_marked ss i) ≡ numbers_of ss
  numbers_marked [] i = refl
  numbers_marked (s ∷ ss) zero = refl
  numbers_marked (s ∷ ss) (suc i) = ap (λ z. s.number ∷ z) (numbers_marked ss i)

  below_marked : (n : ℕ) (ss : List (Slot R D)) (i : ℕ) → IsBelow n ss → IsBelow n (slots_marked ss i)
  below_marked n [] i b = b
  below_marked n (s ∷ ss) zero b = b
  below_marked n (s ∷ ss) (suc i) b = (b.0, below_marked n ss i b.1)

  pub ascending_marked : (ss : List (Slot R D)) (i : ℕ) → AreAscending ss → AreAscending (slots_marked ss i)
  ascending_marked [] i up = up
  ascending_marked (s ∷ ss) zero up = up
  ascending_marked (s ∷ ss) (suc i) up = (below_marked s.number ss i up.0, ascending_marked ss i up.1)

  records_marked : (ss : List (Slot R D)) (i : ℕ) → map record_entry (slots_marked ss i) ≡ map record_entry ss
  records_marked [] i = refl
  records_marked (s ∷ ss) zero = refl
  records_marked (s ∷ ss) (suc i) = ap (λ z. record_entry s ∷ z) (records_marked ss i)

  bases_marked : (ss : List (Slot R D)) (i : ℕ) → map base_entry (slots_marked ss i) ≡ map base_entry ss
  bases_marked [] i = refl
  bases_marked (s ∷ ss) zero = refl
  bases_marked (s ∷ ss) (suc i) = ap (λ z. base_entry s ∷ z) (bases_marked ss i)

  devices_marked : (ss : List (Slot R D)) (i : ℕ) → filter_map device_entry (slots_marked ss i) ≡ filter_map device_entry ss
  devices_marked [] i = refl
  devices_marked (s ∷ ss) zero = refl
  devices_marked (s ∷ ss) (suc i) = ap (cons_option (device_entry s)) (devices_marked ss i)

  pub contents_marked : (ss : List (Slot R D)) (i : ℕ) → contents_of (slots_marked ss i) ≡ contents_of ss
  contents_marked ss i = same_contents (slots_marked ss i) ss (records_marked ss i) (devices_marked ss i) (bases_marked ss i)

  pub marked_at : (ss : List (Slot R D)) (i : ℕ) (t : Slot R D) → i < length ss → t ≡ get_or (slots_marked ss i) i t → t.is_changed ≡ true
  marked_at [] i t l at = absurd (omega arith)
  marked_at (s ∷ ss) zero t l at = ap (λ (z : Slot R D). z.is_changed) at
  marked_at (s ∷ ss) (suc i) t l at = marked_at ss i t (omega arith) at

  pub marked_kept : (ss ms : List (Slot R D)) (i : ℕ) (t : Slot R D) → ms ≡ slots_marked ss i → i < length ms → t ≡ get_or ms i t → t.is_changed ≡ true
  marked_kept ss ms i t is l at =
      let e : length ms ≡ length ss = ap length is ∙ length-marked ss i in
      marked_at ss i t (omega arith) (at ∙ ap (λ (z : List (Slot R D)). get_or z i t) is)

  marked_other : (ss : List (Slot R D)) (i j : ℕ) (t : Slot R D) → j ≢ i → get_or (slots_marked ss i) j t ≡ get_or ss j t
  marked_other [] i j t apart = refl
  marked_other (s ∷ ss) zero zero t apart = absurd (apart refl)
  marked_other (s ∷ ss) zero (suc j) t apart = refl
  marked_other (s ∷ ss) (suc i) zero t apart = refl
  marked_other (s ∷ ss) (suc i) (suc j) t apart = marked_other ss i j t (λ e. apart (ap suc e))

  pub marked_set : (ss : List (Slot R D)) (i : ℕ) (s : Slot R D) → i < length ss → s ≡ get_or ss i s → slots_marked ss i ≡ set ss i (slot_marked s)
  marked_set [] i s l at = absurd (omega arith)
  marked_set (t ∷ ss) zero s l at = ap (λ (z : Slot R D). slot_marked z ∷ ss) (sym at)
  marked_set (t ∷ ss) (suc i) s l at = ap (λ z. t ∷ z) (marked_set ss i s (omega arith) at)

  marked_itself : (s : Slot R D) → s.is_changed ≡ true → slot_marked s ≡ s
  marked_itself s e = λ j. record s { is_changed = sym e j }

  -- Marking a marked slot changes nothing.
  pub marked_already : (ss : List (Slot R D)) (i : ℕ) (s : Slot R D) → i < length ss → s ≡ get_or ss i s → s.is_changed ≡ true → slots_marked ss i ≡ ss
  marked_already ss i s l at e = marked_set ss i s l at ∙ ap (set ss i) (marked_itself s e ∙ at) ∙ set-get_or ss i s

  sum_marked : (ss : List (Slot R D)) (i : ℕ) (s : Slot R D) → i < length ss → s ≡ get_or ss i s → s.is_changed ≡ false → sum_by one_if_unmarked (slots_marked ss i) + 1 ≡ sum_by one_if_unmarked ss
  sum_marked ss i s l at e =
      let one : one_if_unmarked (get_or ss i s) ≡ 1 = ap one_if_unmarked (sym at) ∙ ap (λ b. cond b 0 1) e in
      let sums = sum_by-set one_if_unmarked ss i (slot_marked s) s l in
      ap (λ (z : List (Slot R D)). sum_by one_if_unmarked z + 1) (marked_set ss i s l at) ∙ omega (arith, one, sums)

  pub marked_tracked : (ss : List (Slot R D)) (changed : List ℕ) (i : ℕ) (s : Slot R D) → AreTracked ss changed → i < length ss → s ≡ get_or ss i s → s.is_changed ≡ false
      → AreTracked (slots_marked ss i) (changed ++ i ∷ [])
  marked_tracked ss changed i s tracked l at e = record {
    within = λ j c. let len = length-marked ss i in
        ⊎_elim
        (λ d. let w = tracked.within j d in omega arith)
        (λ d. let w = lone_in i j d in omega arith)
        (Contains-append_cases changed (i ∷ []) j c);
    listed = λ j t lj read f.
        ⊎_elim
        (λ (same : j ≡ i). subst (λ q. Contains (changed ++ i ∷ []) q) (sym same) (Contains-push changed i))
        (λ apart. Contains-append_left changed (i ∷ []) j (tracked.listed j t (let len = length-marked ss i in omega arith) (read ∙ marked_other ss i j t apart) f))
        (cases_eq j i);
    same = λ j t lj read f.
        ⊎_elim
        (λ (same : j ≡ i). absurd (let h : true ≡ false = sym (marked_at ss i t l (read ∙ ap (λ q. get_or (slots_marked ss i) q t) same)) ∙ f in cc))
        (λ apart. tracked.same j t (let len = length-marked ss i in omega arith) (read ∙ marked_other ss i j t apart) f)
        (cases_eq j i);
    few = omega (arith, tracked.few, length_push changed i, sum_marked ss i s l at e, length-marked ss i);
  }

  -- Replacing a slot with one that is marked the same keeps the list right.
  pub set_tracked : (ss : List (Slot R D)) (changed : List ℕ) (i : ℕ) (s t : Slot R D) → AreTracked ss changed → i < length ss → s ≡ get_or ss i s → t.is_changed ≡ s.is_changed
      → (t.is_changed ≡ false → t.base ≡ t.fields) → AreTracked (set ss i t) changed
  set_tracked ss changed i s t tracked l at e fits = record {
    within = λ j c. let len = length-set ss i t in let w = tracked.within j c in omega arith;
    listed = λ j x lj read f.
        ⊎_elim
        (λ (same : j ≡ i).
        let is : x ≡ t = read ∙ ap (λ q. get_or (set ss i t) q x) same ∙ get_or-set_same ss i t x l in
        subst (λ q. Contains changed q) (sym same) (tracked.listed i s l at (sym e ∙ ap (λ (z : Slot R D). z.is_changed) (sym is) ∙ f)))
        (λ apart. tracked.listed j x (let len = length-set ss i t in omega arith) (read ∙ get_or-set_other ss i j t x apart) f)
        (cases_eq j i);
    same = λ j x lj read f.
        ⊎_elim
        (λ (same : j ≡ i).
        let is : x ≡ t = read ∙ ap (λ q. get_or (set ss i t) q x) same ∙ get_or-set_same ss i t x l in
        subst (λ (z : Slot R D). z.base ≡ z.fields) (sym is) (fits (ap (λ (z : Slot R D). z.is_changed) (sym is) ∙ f)))
        (λ apart. tracked.same j x (let len = length-set ss i t in omega arith) (read ∙ get_or-set_other ss i j t x apart) f)
        (cases_eq j i);
    few =
        let same : one_if_unmarked t ≡ one_if_unmarked (get_or ss i s) = ap (λ b. cond b 0 1) e ∙ ap one_if_unmarked at in
        omega (arith, tracked.few, sum_by-set one_if_unmarked ss i t s l, same, length-set ss i t);
  }

  -- Adding a slot whose base equals its record keeps the list right.
  pub pushed_tracked : (ss : List (Slot R D)) (s : Slot R D) (changed : List ℕ) → s.base ≡ s.fields → s.is_changed ≡ false → AreTracked ss changed → AreTracked (ss ++ s ∷ []) changed
  pushed_tracked ss s changed b e tracked =
      let len = length_push ss s in
      let last : (j : ℕ) (t : Slot R D) → j ≡ length ss → t ≡ get_or (ss ++ s ∷ []) j t → t ≡ s = λ j t same at. at ∙ ap (λ q. get_or (ss ++ s ∷ []) q t) same ∙ get_or-append_seam ss s [] t in
      record {
        within = λ j c. let l = tracked.within j c in omega arith;
        listed = λ j t l at f.
            ⊎_elim
            (λ (same : j ≡ length ss). absurd (let h : false ≡ true = sym e ∙ ap (λ (z : Slot R D). z.is_changed) (sym (last j t same at)) ∙ f in cc))
            (λ apart. let below : j < length ss = omega arith in tracked.listed j t below (at ∙ get_or_append_left ss (s ∷ []) t j below) f)
            (cases_eq j (length ss));
        same = λ j t l at f.
            ⊎_elim
            (λ (same : j ≡ length ss). subst (λ (z : Slot R D). z.base ≡ z.fields) (sym (last j t same at)) b)
            (λ apart. let below : j < length ss = omega arith in tracked.same j t below (at ∙ get_or_append_left ss (s ∷ []) t j below) f)
            (cases_eq j (length ss));
        few =
            let one : one_if_unmarked s ≡ 1 = ap (λ b. cond b 0 1) e in
            omega (arith, tracked.few, sum_by_push one_if_unmarked ss s, one, len);
      }

  -- A slot that was found keeps its place when one is marked.
  pub marked_there : (ss us ms : List (Slot R D)) (n i j : ℕ) → us ≡ ss → ms ≡ slots_marked ss j → (i < length us) × (slice_index (numbers_of us) i ≡ n)
      → (i < length ms) × (slice_index (numbers_of ms) i ≡ n)
  marked_there ss us ms n i j same is there =
      let e : length ms ≡ length us = ap length is ∙ length-marked ss j ∙ ap length (sym same) in
      let l = there.0 in
      (omega arith, ap (λ (z : List (Slot R D)). slice_index (numbers_of z) i) is ∙ ap (λ (ns : List ℕ). slice_index ns i) (numbers_marked ss j) ∙ ap (λ (z : List (Slot R D)). slice_index (numbers_of z) i) (sym same) ∙ there.1)

  -- Folding keeps the order and, if the base equals the records, the contents.
  pub fold_up : (ss fs : List (Slot R D)) → AreAscending ss → fs ≡ map slot_folded ss → AreAscending fs
  fold_up ss fs up is = subst (λ (z : List (Slot R D)). AreAscending z) (sym is) (ascending_folded ss up)

  pub refolded : (ss fs : List (Slot R D)) (m : Contents R D) → contents_of ss ≡ m → fs ≡ map slot_folded ss → m.base ≡ m.records → contents_of fs ≡ m
  refolded ss fs m view is same =
      ap contents_of is ∙ folded_contents ss ∙ ap (λ (c : Contents R D). record c { base = c.records }) view ∙ (λ j. record m { base = sym same j })

  pub fold_folded : (ss fs : List (Slot R D)) → fs ≡ map slot_folded ss → AreFolded fs
  fold_folded ss fs is = subst (λ (z : List (Slot R D)). AreFolded z) (sym is) (are_folded ss)

  pub fold_len : (ss fs : List (Slot R D)) → fs ≡ map slot_folded ss → length fs ≡ length ss
  fold_len ss fs is = ap length is ∙ length-map ss slot_folded

  -- Folded slots with an empty list are a valid set.
  pub folded_kept : (ss : List (Slot R D)) (changed : List ℕ) (capacity : ℕ) → AreAscending ss → AreFolded ss → changed ≡ [] → length ss ≤ capacity → AreKept ss changed capacity
  folded_kept ss changed capacity up f none l = record { ascending = up; tracked = subst (λ (p : List ℕ). AreTracked ss p) (sym none) (folded_tracked ss f); room = l }

  -- If none is listed, none is marked.
  pub none_listed : (ss : List (Slot R D)) (changed : List ℕ) → AreTracked ss changed → changed ≡ [] → AreFolded ss
  none_listed ss changed tracked none =
      all_folded ss (λ s c.
      elim s.is_changed as (λ b. s.is_changed ≡ b → (s.base ≡ s.fields) × (b ≡ false)) [
        | true ↦ λ e. absurd (let d = subst (λ (p : List ℕ). Contains p c.0) none (tracked.listed c.0 s c.1 (sym c.2) e) in let l : d.0 < 0 = d.1 in omega arith)
        | false ↦ λ e. (tracked.same c.0 s c.1 (sym c.2) e, refl)
      ] refl)

  -- Each slot's record is like its base if the maps are alike.
  pub alike_slots : (k : RecordRules R) (ss : List (Slot R D)) (c : Contents R D) → AreAscending ss → contents_of ss ≡ c → RecordsAreLikeTheirBase k c → AllLikeTheirBases k ss
  alike_slots k ss c up is like i s l at =
      let n = slice_index (numbers_of ss) i in
      let r : get c.records n ≡ Some s.fields = ap (λ (z : Contents R D). get z.records n) (sym is) ∙ record_there ss i n s up l refl ∙ ap (λ (t : Slot R D). Some t.fields) (sym at) in
      let b : get c.base n ≡ Some s.base = ap (λ (z : Contents R D). get z.base n) (sym is) ∙ base_there ss i n s up l refl ∙ ap (λ (t : Slot R D). Some t.base) (sym at) in
      let own : record_at k c.records n ≡ s.fields = ap (λ o. unwrap_or o k.missing) r in
      let base : record_at k c.base n ≡ s.base = ap (λ o. unwrap_or o k.missing) b in
      let it = like n (ap is_some r) in
      record {
        same_type = ap k.record_type (sym base) ∙ it.same_type ∙ ap k.record_type own;
        same_links = ap k.link (sym base) ∙ it.same_links ∙ ap k.link own;
      }

  pub like_itself : (k : RecordRules R) (c : Contents R D) → c.base ≡ c.records → RecordsAreLikeTheirBase k c
  like_itself k c e q has = record {
    same_type = ap (λ (m : Records R). k.record_type (record_at k m q)) e;
    same_links = ap (λ (m : Records R). k.link (record_at k m q)) e;
  }
