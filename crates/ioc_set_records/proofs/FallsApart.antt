-- A set whose link changes, as the map of its records.
use Rattle.std.proofs.Common.{◌≡◌, ◌⊎◌, ℕ, ◌<◌, List, None, true, false, length, get_or, refl, sym, ap, ◌∙◌, subst, arith}
use Rattle.std.specs.Prelude.{slice_index, IsSome, is_some, Contains}
use Rattle.std.specs.FinMap.{get, insert}
use Rattle.std.proofs.lemmas.List.{get_or_default}
use Rattle.ioc_fields.specs.declared.field_no.FieldNo.{FieldNo}
use Rattle.ioc_graph.specs.Paths.{Connected}
use Rattle.ioc_dbcommon.specs.declared.link_field.LinkField.{LinkField}
use Rattle.ioc_dbcommon.specs.Links.{use_of, named_by}
use Rattle.ioc_record.specs.RecordRules.{RecordRules}
use Rattle.ioc_record.specs.Laws.{IsLawful}
use Rattle.ioc_set_records.specs.declared.slots.Slot.{Slot}
use Rattle.ioc_set_records.specs.Contents.{Records, Devices, record_at}
use Rattle.ioc_set_records.specs.Slots.{records_of, devices_of, numbers_of, AreAscending}
use Rattle.ioc_set_records.specs.Edges.{slot_relinked, slots_relinked}
use Rattle.ioc_set_records.specs.Joined.{Links, links_of, Joined, IsClosed, IsPart, HasLink, AreShared, relinked}
use Rattle.ioc_set_records.specs.Parted.{IsParted}
use Rattle.ioc_set_records.proofs.Slotted.{same_Some, number_at}
use Rattle.ioc_set_records.proofs.Seen.{devices_same, device_there, records_set}
use Rattle.ioc_set_records.proofs.Seats.{seat_within, seat_number, seat_get, seat_record}
use Rattle.ioc_set_records.proofs.EdgeLaws.{relinked_set, length-relinked}
use Rattle.ioc_set_records.proofs.JoinLaws.{numbers_relinked, ascending_relinked}
use Rattle.ioc_set_records.proofs.Relinking.{get_own, closed_after, former, reach}
use Rattle.ioc_set_records.proofs.Sides.{stay_ascending, rest_ascending, shared_sides, device_sides, own_side, stay_part, rest_part}

module _ {R D : Type 0} (k : RecordRules R) (lawful : IsLawful k) (ss us : List (Slot R D)) (m : Records R) (up : AreAscending ss) (is : records_of ss ≡ m) (same : us ≡ ss) (n place : ℕ)
    (there : (place < length us) × (slice_index (numbers_of us) place ≡ n)) (field : FieldNo) (link : LinkField) (has : HasLink k m n field) where
  abbrev x : R
  x = has.0

  abbrev after : Records R
  after = relinked k m n field link

  abbrev zs : List (Slot R D)
  zs = slots_relinked k ss place field link

  pub l : place < length ss
  l = seat_within ss us m up is same n place there

  -- The slot that the code reads at the place.
  slot : Slot R D
  slot = get_or ss place (record { number = n; fields = x; base = x; is_changed = false; device = None })

  at : slot ≡ get_or ss place slot
  unfolding slot
  at = get_or_default ss place (record { number = n; fields = x; base = x; is_changed = false; device = None }) slot l

  fields_are : slot.fields ≡ record_at k m n
  fields_are = seat_record ss us m up is same n place there k slot at

  pub zs_up : AreAscending zs
  zs_up = ascending_relinked k ss place field link up

  -- The field that is set is a link field of the record that is read.
  pub link_field : (s : Slot R D) → place < length ss → s ≡ get_or ss place s → is_some (k.link s.fields field) ≡ true
  link_field s within read =
      let here = seat_get ss us m up is same n place there s read in
      ap (λ (y : R). is_some (k.link y field)) (same_Some s.fields x (sym here ∙ has.1)) ∙ has.2

  pub zs_is : records_of zs ≡ after
  zs_is =
      ap records_of (relinked_set k ss place slot field link l at)
      ∙ records_set ss place (slot_relinked k slot field link) n up l (number_at ss place slot l at) (sym (seat_number ss us m up is same n place there) ∙ sym (number_at ss place slot l at))
      ∙ ap (λ (r : Records R). insert r n (k.with_link slot.fields field link)) is
      ∙ ap (λ (y : R). insert m n (k.with_link y field link)) fields_are

  -- A link change changes no device.
  pub zs_devices : devices_of zs ≡ devices_of ss
  zs_devices =
      ap devices_of (relinked_set k ss place slot field link l at)
      ∙ devices_same ss place (slot_relinked k slot field link) slot.number up l (number_at ss place slot l at) refl
      (ap (λ (s : Slot R D). s.device) at ∙ sym (device_there ss place slot.number slot up l (sym (number_at ss place slot l at))))

  zs_number : slice_index (numbers_of zs) place ≡ n
  zs_number = ap (λ (z : List ℕ). slice_index z place) (numbers_relinked k ss place field link ∙ ap numbers_of (sym same)) ∙ there.1

  module _ (within : (t : ℕ) → Contains (named_by (use_of link)) t → IsSome (get m t)) (part : IsPart (links_of k m)) where
    after_closed : IsClosed (links_of k after)
    after_closed = closed_after k lawful m n x has.1 field link has.2 within part.closed

    pub zs_closed : IsClosed (links_of k (records_of zs))
    zs_closed = subst (λ (r : Records R). IsClosed (links_of k r)) (sym zs_is) after_closed

    module _ (stay rest : List (Slot R D)) (parted : IsParted k zs place stay rest) where
      l_zs : place < length zs
      l_zs = let e = length-relinked k ss place field link in let h = l in omega arith

      pub stay_rises : AreAscending stay
      stay_rises = stay_ascending k zs zs_up place l_zs stay rest parted

      pub rest_rises : AreAscending rest
      rest_rises = rest_ascending k zs zs_up place l_zs stay rest parted

      pub devices : (ds : Devices D) → devices_of ss ≡ ds → AreShared (get ds) (get (devices_of stay)) (get (devices_of rest))
      devices ds are = subst (λ (r : Devices D). AreShared (get r) (get (devices_of stay)) (get (devices_of rest))) (zs_devices ∙ are) (device_sides k zs zs_up place l_zs stay rest parted)

      pub shared : AreShared (get after) (get (records_of stay)) (get (records_of rest))
      shared = subst (λ (r : Records R). AreShared (get r) (get (records_of stay)) (get (records_of rest))) zs_is (shared_sides k zs zs_up place l_zs stay rest parted)

      pub own : IsSome (get (records_of stay) n)
      own =
          subst (λ q. IsSome (get (records_of stay) q)) zs_number
          (own_side k zs zs_up place l_zs stay rest parted (subst (λ q. IsSome (get (records_of zs) q)) (sym zs_number) (ap (λ (r : Records R). is_some (get r n)) zs_is ∙ ap is_some (get_own k lawful m n x has.1 field link has.2))))

      pub stay_is_part : IsPart (links_of k (records_of stay))
      stay_is_part = stay_part k zs zs_up place l_zs stay rest parted zs_closed

      Reaches : Links → ℕ → Type 0
      Reaches f r = (q : ℕ) → IsSome (f q) → Connected (Joined f) q r ⊎ Connected (Joined f) q (former k lawful m n x has.1 field link has.2)

      reaches_there : Reaches (links_of k (records_of zs)) (slice_index (numbers_of zs) place)
      unfolding Reaches
      reaches_there =
          subst (λ (r : Records R). Reaches (links_of k r) (slice_index (numbers_of zs) place)) (sym zs_is)
          (subst (λ q. Reaches (links_of k after) q) (sym zs_number) (reach k lawful m n x has.1 field link has.2 part))

      pub rest_is_part : IsPart (links_of k (records_of rest))
      unfolding Reaches
      rest_is_part = rest_part k zs zs_up place l_zs stay rest parted zs_closed (former k lawful m n x has.1 field link has.2) reaches_there
