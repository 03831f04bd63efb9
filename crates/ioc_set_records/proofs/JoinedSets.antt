-- Two sets that become one, as the maps of their records.
use Rattle.std.proofs.Common.{◌≡◌, ℕ, ◌<◌, List, [], ◌∷◌, ◌++◌, Option, Some, None, length, get_or, refl, sym, ap, ◌∙◌, subst, inl, inr, ⊎_elim, arith}
use Rattle.std.specs.Prelude.{slice_index, IsSome, is_some, Contains}
use Rattle.std.specs.Option.{option_map}
use Rattle.std.specs.FinMap.{get}
use Rattle.std.specs.List.Sorted.{IsNonDecreasingBy, IsPermutation}
use Rattle.std.proofs.lemmas.Bool.{cases_eq}
use Rattle.ioc_fields.specs.declared.field_no.FieldNo.{FieldNo}
use Rattle.ioc_dbcommon.specs.declared.link_field.LinkField.{LinkField}
use Rattle.ioc_dbcommon.specs.Links.{use_of, named_by}
use Rattle.ioc_record.specs.RecordRules.{RecordRules, targets}
use Rattle.ioc_record.specs.Laws.{IsLawful}
use Rattle.ioc_set_records.specs.declared.slots.Slot.{Slot}
use Rattle.ioc_set_records.specs.Contents.{Records, Devices}
use Rattle.ioc_set_records.specs.Slots.{records_of, devices_of, numbers_of, AreAscending}
use Rattle.ioc_set_records.specs.Edges.{slots_relinked}
use Rattle.ioc_set_records.specs.Joined.{links_of, IsPart, HasLink, HasFreeLink, AreShared, relinked}
use Rattle.ioc_set_records.proofs.Slotted.{none_some, slot_at}
use Rattle.ioc_set_records.proofs.Seen.{record_in, get_record}
use Rattle.ioc_set_records.proofs.Relinking.{get_other, has_after, has_before, names_kept, names_new, names_before, n_before}
use Rattle.ioc_set_records.proofs.FallsApart.{zs_up, zs_is, zs_devices}
use Rattle.ioc_set_records.proofs.Merged.{all_ascending, shared_all, devices_all}
use Rattle.ioc_set_records.proofs.BecomeOne.{joined_part}

links_some : {R : Type 0} (k : RecordRules R) (o : Option R) → IsSome o → IsSome (option_map (targets k) o)
links_some k None s = s
links_some k (Some x) s = refl

-- Links are shared as the records are.
shared_links : {R : Type 0} (k : RecordRules R) (f g h : ℕ → Option R) → AreShared f g h → AreShared (λ q. option_map (targets k) (f q)) (λ q. option_map (targets k) (g q)) (λ q. option_map (targets k) (h q))
shared_links k f g h shared q =
    ⊎_elim
    (λ s. inl (ap (option_map (targets k)) s.0, ap (option_map (targets k)) s.1))
    (λ s. inr (ap (option_map (targets k)) s.0, ap (option_map (targets k)) s.1))
    (shared q)

lone : (x y : ℕ) (xs : List ℕ) → xs ≡ x ∷ [] → Contains xs y → y ≡ x
lone x y xs e c =
    let d : Contains (x ∷ []) y = subst (λ (z : List ℕ). Contains z y) e c in
    sym (sym (ap (λ i. get_or (x ∷ []) i y) (let l = d.1 in let z : d.0 ≡ 0 = omega arith in z)) ∙ d.2)

first_in : (x : ℕ) (xs : List ℕ) → xs ≡ x ∷ [] → Contains xs x
first_in x xs e = subst (λ (z : List ℕ). Contains z x) (sym e) (0, omega arith, refl)

module _ {R D : Type 0} (k : RecordRules R) (lawful : IsLawful k) (ss us : List (Slot R D)) (m : Records R) (up : AreAscending ss) (is : records_of ss ≡ m) (same : us ≡ ss) (n place : ℕ)
    (there : (place < length us) × (slice_index (numbers_of us) place ≡ n)) (field : FieldNo) (link : LinkField) (free : HasFreeLink k m n field)
    (ts : List (Slot R D)) (o : Records R) (t_up : AreAscending ts) (t_is : records_of ts ≡ o) (apart : (q : ℕ) → IsSome (get m q) → get o q ≡ None)
    (all : List (Slot R D)) (moved : IsPermutation (slots_relinked k ss place field link ++ ts) all) (sorted : IsNonDecreasingBy (λ s. s.number) all) where
  abbrev has : HasLink k m n field
  has = (free.0, free.1, free.2)

  abbrev after : Records R
  after = relinked k m n field link

  abbrev zs : List (Slot R D)
  zs = slots_relinked k ss place field link

  zs_ascend : AreAscending zs
  zs_ascend = zs_up k lawful ss us m up is same n place there field link has

  zs_are : records_of zs ≡ after
  zs_are = zs_is k lawful ss us m up is same n place there field link has

  some_before : (q : ℕ) → IsSome (get after q) → IsSome (get m q)
  some_before q s =
      ⊎_elim
      (λ (e : q ≡ n). ap (λ i. is_some (get m i)) e ∙ ap is_some free.1)
      (λ a. ap is_some (sym (get_other k lawful m n free.0 free.1 field link free.2 q a)) ∙ s)
      (cases_eq q n)

  none_some_slot : (o : Option (Slot R D)) → record_in o ≡ None → o ≡ None
  none_some_slot None e = refl
  none_some_slot (Some s) e = absurd (none_some s.fields (sym e))

  apart_there : (q : ℕ) (s : Slot R D) → slot_at zs q ≡ Some s → slot_at ts q ≡ None
  apart_there q s e =
      none_some_slot (slot_at ts q) (
      sym (get_record ts q) ∙ ap (λ (r : Records R). get r q) t_is
      ∙ apart q (some_before q (ap (λ (r : Records R). is_some (get r q)) (sym zs_are) ∙ ap is_some (get_record zs q ∙ ap record_in e))))

  pub joined_ascending : AreAscending all
  joined_ascending = all_ascending zs ts all zs_ascend t_up apart_there moved sorted

  pub joined_shared : AreShared (get (records_of all)) (get after) (get o)
  joined_shared =
      subst (λ (r : Records R). AreShared (get (records_of all)) (get r) (get o)) zs_are
      (subst (λ (r : Records R). AreShared (get (records_of all)) (get (records_of zs)) (get r)) t_is (shared_all zs ts all zs_ascend t_up apart_there moved sorted))

  pub joined_devices : (ds es : Devices D) → devices_of ss ≡ ds → devices_of ts ≡ es → AreShared (get (devices_of all)) (get ds) (get es)
  joined_devices ds es are others =
      subst (λ (r : Devices D). AreShared (get (devices_of all)) (get ds) (get r)) others
      (subst (λ (r : Devices D). AreShared (get (devices_of all)) (get r) (get (devices_of ts))) (zs_devices k lawful ss us m up is same n place there field link has ∙ are)
      (devices_all zs ts all zs_ascend t_up apart_there moved sorted))

  pub joined_is_part : IsPart (links_of k m) → IsPart (links_of k o) → (t : ℕ) × (named_by (use_of link) ≡ t ∷ []) × IsSome (get o t) → IsPart (links_of k (records_of all))
  joined_is_part one other to =
      joined_part (links_of k m) (links_of k (records_of all)) (links_of k after) (links_of k o) n to.0 (shared_links k (get (records_of all)) (get after) (get o) joined_shared)
      (has_before k lawful m n free.0 free.1 field link free.2) (has_after k lawful m n free.0 free.1 field link free.2) (names_kept k lawful m n free.0 free.1 field link free.2 free.3)
      (λ a b c. ⊎_elim (λ d. inl d) (λ d. inr (lone to.0 b (named_by (use_of link)) to.1 d)) (names_before k lawful m n free.0 free.1 field link free.2 a b c))
      (names_new k lawful m n free.0 free.1 field link free.2 to.0 (first_in to.0 (named_by (use_of link)) to.1)) (links_some k (get o to.0) to.2) (n_before k lawful m n free.0 free.1 field link free.2)
      one other

-- The slots that were moved to larger memory are the same.
pub in_room : {R D : Type 0} (k : RecordRules R) (ss us ts : List (Slot R D)) (place : ℕ) (field : FieldNo) (link : LinkField) (all : List (Slot R D)) → us ≡ ss
    → IsPermutation (slots_relinked k us place field link ++ ts) all → IsPermutation (slots_relinked k ss place field link ++ ts) all
in_room {R} {D} k ss us ts place field link all same moved = subst (λ (z : List (Slot R D)). IsPermutation (slots_relinked k z place field link ++ ts) all) same moved
