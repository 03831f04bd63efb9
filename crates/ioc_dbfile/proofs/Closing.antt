-- Each resolved link of a loaded database leads to a record of the database.
use Rattle.std.proofs.Common.{◌≡◌, ℕ, zero, suc, ◌+◌, ◌<◌, Bool, true, false, cond, List, [], ◌∷◌, ◌++◌, length, map, Option, Some, None, refl, sym, ap, ◌∙◌, ◌⊎◌, inl, inr, arith, lt-ltb, unwrap_or}
use Rattle.std.specs.Prelude.{slice_get, slice_index_or, Contains, is_some}
use Rattle.ioc_names.specs.NameTable.{NameTable, number_of}
use Rattle.ioc_links.specs.declared.link.Link.{Link}
use Rattle.ioc_links.specs.declared.link.Link.TheVariants.{Empty, Constant, Real, Device, Database}
use Rattle.ioc_dbcommon.specs.declared.link_field.Lead.{Lead}
use Rattle.ioc_dbcommon.specs.declared.link_field.Lead.TheVariants.{Nowhere, Field, OwnDevice}
use Rattle.ioc_links.specs.declared.link.Flags.{Flags}
use Rattle.ioc_fields.specs.declared.record_type.RecordType.{RecordType}
use Rattle.ioc_fields.specs.declared.field_no.FieldNo.{FieldNo}
use Rattle.ioc_fields.specs.Names.{field_of}
use Rattle.ioc_dbcommon.specs.declared.link_field.FieldAddress.{FieldAddress}
use Rattle.ioc_fields.specs.Table.{kind_of, is_value_kind}
use Rattle.ioc_dbcommon.specs.declared.link_field.LinkField.{LinkField}
use Rattle.ioc_dbcommon.specs.Links.{use_of, use_as, database_use, device_use, named_by, named_by_field, named_by_all}
use Rattle.ioc_record.specs.Laws.{IsLawful}
use Rattle.ioc_record.specs.RecordRules.{RecordRules, targets}
use Rattle.rec_types.specs.RecordLaws.{record_lawful}
use Rattle.ioc_fields.specs.LinkFields.{link_fields, link_fields_are, stands_among_links}
use Rattle.rec_types.specs.Record.{Record, record_rules}
use Rattle.ioc_dbfile.specs.FirstWorld.{first_world}
use Rattle.ioc_store.specs.OneMapLaws.{get-numbered, contains-numbered}
use Rattle.ioc_store.specs.World.{at, IsClosed}
use Rattle.ioc_dbfile.specs.Finished.{target_field, target_in, target_at, standing_of, lead_of, leads_to, with_standing, linked, linked_all, finished, by_place, Owner}
use Rattle.ioc_dbfile.specs.Owners.{owner_of, device_lead}
use Rattle.ioc_dbfile.specs.OwnDevices.{DeviceNames, own_owner, device_names, own_linked, with_own_devices}

-- Holds if each number is below a limit.
abbrev Below : ℕ → List ℕ → Type 0
Below n [] = Unit {0}
Below n (x ∷ xs) = (x < n) × Below n xs

below_append : (n : ℕ) (xs ys : List ℕ) → Below n xs → Below n ys → Below n (xs ++ ys)
below_append n [] ys h k = k
below_append n (x ∷ xs) ys h k = (h.0, below_append n xs ys h.1 k)

below_at : (n : ℕ) (xs : List ℕ) (i x : ℕ) → Below n xs → i < length xs → slice_index_or xs i x ≡ x → x < n
below_at n [] i x h lt e = absurd (omega arith)
below_at n (y ∷ ys) zero x h lt e = let same : y ≡ x = e in rw same at h.0
below_at n (y ∷ ys) (suc i) x h lt e = let within : i < length ys = omega arith in below_at n ys i x h.1 within e

-- Holds if the link leads to a record with a number below a limit, or to none.
abbrev StandsBelow : ℕ → Option FieldAddress → Type 0
StandsBelow n None = Unit {0}
StandsBelow n (Some s) = s.number < n

slice_get-within : {A : Type 0} (xs : List A) (i : ℕ) (x : A) → slice_get xs i ≡ Some x → i < length xs
slice_get-within [] i x e = cc
slice_get-within (y ∷ ys) zero x e = omega arith
slice_get-within (y ∷ ys) (suc i) x e = let within = slice_get-within ys i x e in omega arith

test_below : (n limit : ℕ) (field : FieldNo) (t : Bool) → n < limit → StandsBelow limit (cond t (Some (record { number = n; field = field })) None)
test_below n limit field true lt = lt
test_below n limit field false lt = tt

field_below : (n limit : ℕ) (type : RecordType) (o : Option FieldNo) → n < limit → StandsBelow limit (target_field n type o)
field_below n limit type None lt = tt
field_below n limit type (Some field) lt = test_below n limit field (is_value_kind (kind_of type field)) lt

record_below : (types : List RecordType) (n : ℕ) (name : List ℕ) (o : Option RecordType) → slice_get types n ≡ o → StandsBelow (length types) (target_in n name o)
record_below types n name None e = tt
record_below types n name (Some type) e = field_below n (length types) type (field_of type name) (slice_get-within types n type e)

target_below : (types : List RecordType) (name : List ℕ) (o : Option ℕ) → StandsBelow (length types) (target_at types name o)
target_below types name None = tt
target_below types name (Some n) = record_below types n name (slice_get types n) refl

database_below : (n : ℕ) (flags : Flags) (o : Option FieldAddress) → StandsBelow n o → Below n (named_by (database_use flags (lead_of o)))
database_below n flags None h = tt
database_below n flags (Some s) h = (h, tt)

device_below : (n : ℕ) (lead : Lead) → Below n (named_by (device_use lead))
device_below n Nowhere = tt
device_below n (Field to) = tt
device_below n OwnDevice = tt

link_below : (names : NameTable) (types : List RecordType) (owner : Owner) (n : ℕ) (l : Link) → Below (length types) (named_by (use_as l (leads_to names types owner n l)))
unfolding standing_of
link_below names types owner n Empty = tt
link_below names types owner n (Constant z) = tt
link_below names types owner n (Real text) = tt
link_below names types owner n (Device text) = device_below (length types) (device_lead n (owner text))
link_below names types owner n (Database target flags) = database_below (length types) flags (target_at types target.field (number_of names target.record_name)) (target_below types target.field (number_of names target.record_name))

-- A resolved link field leads to a record of the database.
led_below : (names : NameTable) (types : List RecordType) (owner : Owner) (n : ℕ) (l : LinkField)
    → Below (length types) (named_by_field (Some (record { link = l.link; lead = leads_to names types owner n l.link })))
unfolding use_of
led_below names types owner n l = link_below names types owner n l.link

none_below : (n : ℕ) (o : Option LinkField) → o ≡ None → Below n (named_by_field o)
none_below n o is = rw is tt

some_is : {X : Type 0} (o : Option X) (x : X) → o ≡ Some x → is_some o ≡ true
some_is o x is = rw is refl

module _ {R : Type 0} (k : RecordRules R) (lawful : IsLawful k) (names : NameTable) (types : List RecordType) (owner : Owner) (n : ℕ) where
  -- Holds if a field is still to be resolved, or its link leads to a record of the database.
  abbrev Ready : List FieldNo → R → FieldNo → Type 0
  Ready fields r g = ((i : ℕ) × (slice_get fields i ≡ Some g)) ⊎ Below (length types) (named_by_field (k.link r g))

  first_or_later : (f : FieldNo) (fs : List FieldNo) (r : R) (g : FieldNo) (l : LinkField) → k.link r f ≡ Some l → Below (length types) (named_by_field (Some l))
      → (i : ℕ) → slice_get (f ∷ fs) i ≡ Some g → Ready fs r g
  first_or_later f fs r g l is below zero at = let same : f ≡ g = cc in inr (rw (← same, is) below)
  first_or_later f fs r g l is below (suc i) at = inl (i, at)

  set_ready : (f : FieldNo) (fs : List FieldNo) (r : R) (l : LinkField) (g : FieldNo) → k.link r f ≡ Some l → Ready (f ∷ fs) r g
      → Ready fs (k.with_link r f (record { link = l.link; lead = leads_to names types owner n l.link })) g
  set_ready f fs r l g is ready =
      let new : LinkField = record { link = l.link; lead = leads_to names types owner n l.link } in
      let here : k.link (k.with_link r f new) f ≡ Some new = lawful.set_here r f new (some_is (k.link r f) l is) in
      elim (lawful.set_there r f g new) [
        | inl set ↦ inr (rw set (led_below names types owner n l))
        | inr same ↦ elim ready [
          | inr below ↦ inr (rw same below)
          | inl at ↦ first_or_later f fs (k.with_link r f new) g new here (led_below names types owner n l) at.0 at.1
        ]
      ]

  none_or_later : (f : FieldNo) (fs : List FieldNo) (r : R) (g : FieldNo) → k.link r f ≡ None → (i : ℕ) → slice_get (f ∷ fs) i ≡ Some g → Ready fs r g
  none_or_later f fs r g is zero at = let same : f ≡ g = cc in inr (none_below (length types) (k.link r g) (rw (← same) is))
  none_or_later f fs r g is (suc i) at = inl (i, at)

  standing_ready : (f : FieldNo) (fs : List FieldNo) (r : R) (o : Option LinkField) (g : FieldNo) → k.link r f ≡ o → Ready (f ∷ fs) r g
      → Ready fs (with_standing k names types owner n r f o) g
  standing_ready f fs r (Some l) g is ready = set_ready f fs r l g is ready
  standing_ready f fs r None g is ready = elim ready [
    | inr below ↦ inr below
    | inl at ↦ none_or_later f fs r g is at.0 at.1
  ]

  linked_ready : (f : FieldNo) (fs : List FieldNo) (r : R) (g : FieldNo) → Ready (f ∷ fs) r g → Ready fs (linked k names types owner n f r) g
  unfolding linked
  linked_ready f fs r g ready = standing_ready f fs r (k.link r f) g refl ready

  all_ready : (fields : List FieldNo) (r : R) → ((g : FieldNo) → Ready fields r g) → (g : FieldNo) → Below (length types) (named_by_field (k.link (linked_all k names types owner n fields r) g))
  all_ready [] r ready g = elim (ready g) [
    | inl at ↦ cc
    | inr below ↦ below
  ]
  all_ready (f ∷ fs) r ready g = all_ready fs (linked k names types owner n f r) (λ x. linked_ready f fs r x (ready x)) g

  all_below : (link : FieldNo → Option LinkField) (fields : List FieldNo) → ((g : FieldNo) → Below (length types) (named_by_field (link g))) → Below (length types) (named_by_all link fields)
  all_below link [] each = tt
  all_below link (f ∷ fs) each = below_append (length types) (named_by_field (link f)) (named_by_all link fs) (each f) (all_below link fs each)

  -- Every field with a link is a link field.
  ready_by : (r : R) (g : FieldNo) (o : Option LinkField) → k.link r g ≡ o → Ready (k.link_fields r) r g
  ready_by r g None is = inr (none_below (length types) (k.link r g) is)
  ready_by r g (Some l) is =
      let type = k.record_type r in
      let at = stands_among_links type g (sym (lawful.link_there r g) ∙ some_is (k.link r g) l is) in
      let fields : k.link_fields r ≡ link_fields type = lawful.link_fields_are r ∙ sym (link_fields_are type) in
      inl (at.0, rw fields at.1)

  first_ready : (r : R) (g : FieldNo) → Ready (k.link_fields r) r g
  first_ready r g = ready_by r g (k.link r g) refl

  -- At the end of a load, the links of a record lead to records of the database.
  finished_below : (r : R) → Below (length types) (targets k (finished k names types owner n r))
  unfolding finished
  finished_below r =
      let ready = linked_all k names types owner n (k.link_fields r) r in
      all_below (k.link (k.loaded ready)) (k.link_fields (k.loaded ready))
      (λ g. rw (lawful.loaded_links ready) (all_ready (k.link_fields r) r (first_ready r) g))

  -- So they do once they are resolved without the end of a load.
  linked_below : (r : R) → Below (length types) (targets k (linked_all k names types owner n (k.link_fields r) r))
  linked_below r =
      let ready = linked_all k names types owner n (k.link_fields r) r in
      all_below (k.link ready) (k.link_fields ready) (all_ready (k.link_fields r) r (first_ready r))

-- The whole database.

length-by_place : {A : Type 0} (f : ℕ → A → A) (n : ℕ) (xs : List A) → length (by_place f n xs) ≡ length xs
length-by_place f n [] = refl
length-by_place f n (x ∷ xs) = let e = length-by_place f (n + 1) xs in omega (arith, e)

length-map : {A B : Type 0} (f : A → B) (xs : List A) → length (map f xs) ≡ length xs
length-map f [] = refl
length-map f (x ∷ xs) = let e = length-map f xs in omega (arith, e)

at_below : (names : NameTable) (types : List RecordType) (owner : Owner) (n : ℕ) (rs : List Record) (i : ℕ)
    → Below (length types) (targets record_rules (unwrap_or (slice_get (by_place (finished record_rules names types owner) n rs) i) record_rules.missing))
at_below names types owner n [] i = rw record_lawful.missing_targets tt
at_below names types owner n (r ∷ rs) zero = finished_below record_rules record_lawful names types owner n r
at_below names types owner n (r ∷ rs) (suc i) = at_below names types owner (n + 1) rs i

-- All records at the end of a load.
pub finished_closed : (names : NameTable) (owner : Owner) (rs items : List Record)
    → items ≡ by_place (finished record_rules names (map record_rules.record_type rs) owner) 0 rs → IsClosed record_rules (first_world items)
unfolding at first_world
finished_closed names owner rs items same = record {
  closed = λ n target named.
      let types = map record_rules.record_type rs in
      let here : Contains (targets record_rules (unwrap_or (slice_get (by_place (finished record_rules names types owner) 0 rs) n) record_rules.missing)) target = rw (get-numbered, same) at named in
      let below : target < length types = below_at (length types) _ here.0 target (at_below names types owner 0 rs n) here.1 here.2 in
      let count : length items ≡ length types = ap length same ∙ length-by_place _ 0 rs ∙ sym (length-map record_rules.record_type rs) in
      rw (contains-numbered items target) (lt-ltb target (length items) (omega arith));
}

own_below : (names : NameTable) (types : List RecordType) (own : DeviceNames) (n : ℕ) (rs : List Record) (i : ℕ)
    → Below (length types) (targets record_rules (unwrap_or (slice_get (by_place (own_linked record_rules names types own) n rs) i) record_rules.missing))
unfolding own_linked
own_below names types own n [] i = rw record_lawful.missing_targets tt
own_below names types own n (r ∷ rs) zero = linked_below record_rules record_lawful names types (own_owner own n) n r
own_below names types own n (r ∷ rs) (suc i) = own_below names types own (n + 1) rs i

-- All records that have devices of their own.
pub own_closed : (names : NameTable) (rs items : List Record) → items ≡ with_own_devices record_rules names rs → IsClosed record_rules (first_world items)
unfolding at first_world
own_closed names rs items same = record {
  closed = λ n target named.
      let types = map record_rules.record_type rs in
      let own = device_names record_rules rs in
      let here : Contains (targets record_rules (unwrap_or (slice_get (by_place (own_linked record_rules names types own) 0 rs) n) record_rules.missing)) target = rw (get-numbered, same) at named in
      let below : target < length types = below_at (length types) _ here.0 target (own_below names types own 0 rs n) here.1 here.2 in
      let count : length items ≡ length types = ap length same ∙ length-by_place _ 0 rs ∙ sym (length-map record_rules.record_type rs) in
      rw (contains-numbered items target) (lt-ltb target (length items) (omega arith));
}
