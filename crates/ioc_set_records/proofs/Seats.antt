-- The slot of a record that was found, among the slots that represent a set.
use Rattle.std.proofs.Common.{◌≡◌, ◌≢◌, ℕ, ◌<◌, List, [], ◌∷◌, Option, Some, None, true, false, length, set, get_or, refl, sym, ap, ◌∙◌, subst, arith}
use Rattle.std.specs.Prelude.{slice_index, IsTrue, is_some, unwrap_or, IfSome, IfNone}
use Rattle.std.specs.FinMap.{get, insert, contains_key}
use Rattle.std.proofs.lemmas.List.{get_or_default}
use Rattle.ioc_device.specs.declared.Ask.{Ask}
use Rattle.ioc_device.specs.declared.Answer.{Answer}
use Rattle.ioc_record.specs.RecordRules.{RecordRules}
use Rattle.ioc_set_records.specs.declared.slots.Slot.{Slot}
use Rattle.ioc_set_records.specs.Contents.{Records, Devices, Contents, record_at, with_device}
use Rattle.ioc_set_records.specs.Answers.{Gives}
use Rattle.ioc_set_records.specs.Slots.{records_of, devices_of, bases_of, contents_of, numbers_of, AreAscending}
use Rattle.ioc_set_records.proofs.Twins.{bases_set, base_there}
use Rattle.ioc_set_records.proofs.Slotted.{none_some, number_at, ascending_set}
use Rattle.ioc_set_records.proofs.Seen.{record_there, device_there, record_absent, device_absent, records_set, devices_set, devices_same, records_same}

module _ {R D : Type 0} (ss us : List (Slot R D)) (m : Records R) (up : AreAscending ss) (is : records_of ss ≡ m) (same : us ≡ ss) (n : ℕ) where
  pub missing : ((i : ℕ) → i < length us → slice_index (numbers_of us) i ≢ n) → contains_key m n ≡ false
  missing absent = ap (λ k. contains_key k n) (sym is ∙ ap records_of (sym same)) ∙ ap is_some (record_absent us n absent)

  pub there_not : IsTrue (contains_key m n) → ((i : ℕ) → i < length us → slice_index (numbers_of us) i ≢ n) → ⊥
  there_not has absent = let e : true ≡ false = sym has ∙ missing absent in cc

  module _ (i : ℕ) (there : (i < length us) × (slice_index (numbers_of us) i ≡ n)) where
    pub seat_within : i < length ss
    seat_within = let e : length us ≡ length ss = ap length same in let l = there.0 in omega arith

    pub seat_number : slice_index (numbers_of ss) i ≡ n
    seat_number = ap (λ (z : List (Slot R D)). slice_index (numbers_of z) i) (sym same) ∙ there.1

    pub seat_get : (s : Slot R D) → s ≡ get_or ss i s → get m n ≡ Some s.fields
    seat_get s at = ap (λ k. get k n) (sym is) ∙ record_there ss i n s up seat_within seat_number ∙ ap (λ (t : Slot R D). Some t.fields) (sym at)

    pub seat_here : (s : Slot R D) → s ≡ get_or ss i s → contains_key m n ≡ true
    seat_here s at = ap is_some (seat_get s at)

    pub seat_record : (k : RecordRules R) (s : Slot R D) → s ≡ get_or ss i s → s.fields ≡ record_at k m n
    seat_record k s at = sym (ap (λ o. unwrap_or o k.missing) (seat_get s at))

    own_number : (s : Slot R D) → s ≡ get_or ss i s → s.number ≡ slice_index (numbers_of ss) i
    own_number s at = number_at ss i s seat_within at

    own_is : (s : Slot R D) → s ≡ get_or ss i s → n ≡ s.number
    own_is s at = sym seat_number ∙ sym (own_number s at)

    pub seat_ascending : (s : Slot R D) → s ≡ get_or ss i s → (r : R) → AreAscending (set ss i (record s { fields = r }))
    seat_ascending s at r = ascending_set ss i (record s { fields = r }) seat_within (own_number s at) up

    pub seat_put : (s : Slot R D) → s ≡ get_or ss i s → (r : R) → records_of (set ss i (record s { fields = r })) ≡ insert m n r
    seat_put s at r = records_set ss i (record s { fields = r }) n up seat_within (own_number s at) (own_is s at) ∙ ap (λ k. insert k n r) is

    own_device : (s : Slot R D) → s ≡ get_or ss i s → s.device ≡ get (devices_of ss) n
    own_device s at = ap (λ (t : Slot R D). t.device) at ∙ sym (device_there ss i n s up seat_within seat_number)

    pub seat_devices : (s : Slot R D) → s ≡ get_or ss i s → (r : R) → devices_of (set ss i (record s { fields = r })) ≡ devices_of ss
    seat_devices s at r = devices_same ss i (record s { fields = r }) n up seat_within (own_number s at) (own_is s at) (own_device s at)

    -- Setting the device of a slot keeps the order.
    pub refit_ascending : (s : Slot R D) → s ≡ get_or ss i s → (o : Option D) → AreAscending (set ss i (record s { device = o }))
    refit_ascending s at o = ascending_set ss i (record s { device = o }) seat_within (own_number s at) up

    pub refit_records : (s : Slot R D) → s ≡ get_or ss i s → (o : Option D) → records_of (set ss i (record s { device = o })) ≡ m
    refit_records s at o =
        records_same ss i (record s { device = o }) n up seat_within (own_number s at) (own_is s at) (sym (ap (λ k. get k n) is ∙ seat_get s at)) ∙ is

    pub refit_devices : (s : Slot R D) → s ≡ get_or ss i s → (d : D) → devices_of (set ss i (record s { device = Some d })) ≡ insert (devices_of ss) n d
    refit_devices s at d = devices_set ss i (record s { device = Some d }) n up seat_within (own_number s at) (own_is s at) d refl

    pub refit_none : (s : Slot R D) → s ≡ get_or ss i s → s.device ≡ None → devices_of (set ss i (record s { device = None })) ≡ devices_of ss
    refit_none s at none = devices_same ss i (record s { device = None }) n up seat_within (own_number s at) (own_is s at) (sym none ∙ own_device s at)

    pub seat_device : (s : Slot R D) → s ≡ get_or ss i s → get (devices_of ss) n ≡ s.device
    seat_device s at = sym (own_device s at)

  -- The record is found if and only if it is in the set.
  pub has_by : (o : Option ℕ) → IfSome o (λ i. (i < length us) × (slice_index (numbers_of us) i ≡ n)) → IfNone o ((i : ℕ) → i < length us → slice_index (numbers_of us) i ≢ n) → contains_key m n ≡ is_some o
  has_by None found absent = missing absent
  has_by (Some i) found absent = told ss i (seat_within i found) refl
    where
      told : (zs : List (Slot R D)) (j : ℕ) → j < length zs → zs ≡ ss → contains_key m n ≡ true
      told [] j l e = absurd (omega arith)
      told (z ∷ zs) j l e = seat_here i found (get_or ss i z) (get_or_default ss i z (get_or ss i z) (seat_within i found))

-- Two sets are equal if their maps are.
pub same_contents : {R D : Type 0} (a b : Contents R D) → a.records ≡ b.records → a.devices ≡ b.devices → a.base ≡ b.base → a ≡ b
same_contents a b p q r = λ i. record { records = p i; devices = q i; base = r i }

module _ {R D : Type 0} (ss us : List (Slot R D)) (m : Contents R D) (up : AreAscending ss) (is : contents_of ss ≡ m) (same : us ≡ ss) (n i : ℕ) (there : (i < length us) × (slice_index (numbers_of us) i ≡ n)) where
  records_are : records_of ss ≡ m.records
  records_are = ap (λ (c : Contents R D). c.records) is

  devices_are : devices_of ss ≡ m.devices
  devices_are = ap (λ (c : Contents R D). c.devices) is

  bases_are : bases_of ss ≡ m.base
  bases_are = ap (λ (c : Contents R D). c.base) is

  -- The contents with another record in the slot.
  pub seat_contents : (s : Slot R D) → s ≡ get_or ss i s → (r : R) → contents_of (set ss i (record s { fields = r })) ≡ record m { records = insert m.records n r }
  seat_contents s at r =
      same_contents _ _ (seat_put ss us m.records up records_are same n i there s at r) (seat_devices ss us m.records up records_are same n i there s at r ∙ devices_are)
      (bases_set ss i (record s { fields = r }) s at refl refl ∙ bases_are)

  -- The devices with another device in the slot.
  pub refit : (s : Slot R D) → s ≡ get_or ss i s → (o : Option D) → (o ≡ None → s.device ≡ None) → devices_of (set ss i (record s { device = o })) ≡ with_device m.devices n o
  refit s at (Some d) fits = refit_devices ss us m.records up records_are same n i there s at d ∙ ap (λ (ds : Devices D). insert ds n d) devices_are
  refit s at None fits = refit_none ss us m.records up records_are same n i there s at (fits refl) ∙ devices_are

  pub refit_leaves : (s : Slot R D) → s ≡ get_or ss i s → (o : Option D) → records_of (set ss i (record s { device = o })) ≡ m.records
  refit_leaves s at o = refit_records ss us m.records up records_are same n i there s at o

  -- The base in the slot is the base of the record.
  pub seat_base : (k : RecordRules R) (s : Slot R D) → s ≡ get_or ss i s → s.base ≡ record_at k m.base n
  seat_base k s at =
      sym (ap (λ o. unwrap_or o k.missing) (ap (λ b. get b n) (sym bases_are)
      ∙ base_there ss i n s up (seat_within ss us m.records up records_are same n i there) (seat_number ss us m.records up records_are same n i there) ∙ ap (λ (t : Slot R D). Some t.base) (sym at)))

  pub refit_base : (s : Slot R D) → s ≡ get_or ss i s → (o : Option D) → bases_of (set ss i (record s { device = o })) ≡ m.base
  refit_base s at o = bases_set ss i (record s { device = o }) s at refl refl ∙ bases_are

  pub device_of_seat : (s : Slot R D) → s ≡ get_or ss i s → get m.devices n ≡ s.device
  device_of_seat s at = ap (λ (ds : Devices D). get ds n) (sym devices_are) ∙ seat_device ss us m.records up records_are same n i there s at

pub no_device : {R D : Type 0} (ss us : List (Slot R D)) (m : Contents R D) → AreAscending ss → contents_of ss ≡ m → us ≡ ss → (n : ℕ) → ((i : ℕ) → i < length us → slice_index (numbers_of us) i ≢ n) → get m.devices n ≡ None
no_device {R} {D} ss us m up is same n absent =
    ap (λ (c : Contents R D). get c.devices n) (sym is)
    ∙ device_absent ss n up (subst (λ (z : List (Slot R D)). (i : ℕ) → i < length z → slice_index (numbers_of z) i ≢ n) same absent)

module _ {D : Type 0} (gives : D → Ask → ℕ → Answer → D → Type 0) where
  -- No device is added or removed.
  pub fitted : (x o : Option D) (ask : Ask) (moment : ℕ) (answer : Answer) → Gives gives x ask moment answer o → o ≡ None → x ≡ None
  fitted None o ask moment answer g e = refl
  fitted (Some d) o ask moment answer g e = absurd (none_some g.0 (sym e ∙ g.2))
