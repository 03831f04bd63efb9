-- A record has a device of its own exactly if one of its links names a device.
use Rattle.std.proofs.Common.{◌≡◌, ◌≢◌, ◌⊎◌, ℕ, zero, suc, ◌+◌, ◌<◌, Bool, true, false, cond, ◌||◌, nat_eq, is_some, List, [], ◌∷◌, length, map, Option, Some, None, refl, sym, ap, subst, ◌∙◌, inl, inr, ⊎_elim, arith}
use Rattle.std.specs.Prelude.{slice_get, slice_index_or, All}
use Rattle.std.specs.List.{list_any}
use Rattle.std.specs.Option.{option_or}
use Rattle.std.specs.Cmp.Lexicographic.{pointwise}
use Rattle.std.proofs.lemmas.Bool.{cases_eq}
use Rattle.std.proofs.lemmas.Grind.{common_steps}
use Rattle.std.proofs.lemmas.Slice.Eq.{bytes_eq-Decides}
use Rattle.std.proofs.lemmas.Option.{slice_get-map}
use Rattle.ioc_names.specs.NameTable.{NameTable}
use Rattle.ioc_links.specs.declared.link.Link.{Link}
use Rattle.ioc_links.specs.declared.link.Link.TheVariants.{Empty, Constant, Real, Device, Database}
use Rattle.ioc_links.specs.declared.link.Flags.{Flags}
use Rattle.ioc_fields.specs.declared.record_type.RecordType.{RecordType}
use Rattle.ioc_fields.specs.declared.field_no.FieldNo.{FieldNo}
use Rattle.ioc_fields.specs.LinkFields.{place, link_fields, link_fields_are, stands_among_links}
use Rattle.ioc_fields.specs.Names.{all_fields}
use Rattle.ioc_dbcommon.specs.declared.link_field.FieldAddress.{FieldAddress}
use Rattle.ioc_dbcommon.specs.declared.link_field.LinkField.{LinkField}
use Rattle.ioc_dbcommon.specs.Links.{use_of, use_as, database_use, device_use}
use Rattle.ioc_record.specs.Laws.{IsLawful}
use Rattle.ioc_record.specs.RecordRules.{RecordRules}
use Rattle.rec_types.specs.Record.{Record, record_rules}
use Rattle.rec_types.specs.RecordLaws.{record_lawful}
use Rattle.ioc_dbfile.specs.Finished.{Owner, leads_to, lead_of, standing_of, with_standing, linked, linked_all, by_place}
use Rattle.ioc_dbfile.specs.Owners.{device_lead, is_own, leads_home, owns_device}
use Rattle.ioc_dbfile.specs.OwnDevices.{DeviceNames, device_of_link, device_of_field, first_device, is_named, own_owner, device_named, device_names, own_linked, with_own_devices, HasOwnDevice}

same_field : (g h : FieldNo) → Some g ≡ Some h → g ≡ h
same_field g h e = cc

-- Two fields are equal, or not.
field_cases : (g h : FieldNo) → (g ≡ h) ⊎ (g ≢ h)
field_cases g h =
    ⊎_elim
    (λ e. inl (same_field g h (sym (place g).1 ∙ ap (slice_get all_fields) e ∙ (place h).1)))
    (λ n. inr (λ e. n (ap (λ f. (place f).0) e)))
    (cases_eq (place g).0 (place h).0)

some_is : {X : Type 0} (o : Option X) (x : X) → o ≡ Some x → is_some o ≡ true
some_is o x is = rw is refl

module _ (names : NameTable) (types : List RecordType) (owner : Owner) (n : ℕ) where
  -- A link field once it is resolved.
  abbrev resolved : Option LinkField → Option LinkField
  resolved None = None
  resolved (Some l) = Some (record { link = l.link; lead = leads_to names types owner n l.link })

  resolved_twice : (o : Option LinkField) → resolved (resolved o) ≡ resolved o
  resolved_twice None = refl
  resolved_twice (Some l) = refl

  same_device : (o : Option LinkField) → device_of_field (resolved o) ≡ device_of_field o
  same_device None = refl
  same_device (Some l) = refl

  module _ {R : Type 0} (k : RecordRules R) (lawful : IsLawful k) where
    here_by : (r : R) (f : FieldNo) (o : Option LinkField) → k.link r f ≡ o → k.link (with_standing k names types owner n r f o) f ≡ resolved o
    here_by r f None is = is
    here_by r f (Some l) is = lawful.set_here r f (record { link = l.link; lead = leads_to names types owner n l.link }) (some_is (k.link r f) l is)

    -- The field that is resolved.
    linked_here : (r : R) (f : FieldNo) → k.link (linked k names types owner n f r) f ≡ resolved (k.link r f)
    unfolding linked
    linked_here r f = here_by r f (k.link r f) refl

    there_by : (r : R) (f g : FieldNo) (o : Option LinkField) → g ≢ f → k.link (with_standing k names types owner n r f o) g ≡ k.link r g
    there_by r f g None apart = refl
    there_by r f g (Some l) apart = lawful.set_others r f g (record { link = l.link; lead = leads_to names types owner n l.link }) apart

    -- Every other field.
    linked_there : (r : R) (f g : FieldNo) → g ≢ f → k.link (linked k names types owner n f r) g ≡ k.link r g
    unfolding linked
    linked_there r f g apart = there_by r f g (k.link r f) apart

    fields_by : (r : R) (f : FieldNo) (o : Option LinkField) → k.link_fields (with_standing k names types owner n r f o) ≡ k.link_fields r
    fields_by r f None = refl
    fields_by r f (Some l) = lawful.link_set_link_fields r f (record { link = l.link; lead = leads_to names types owner n l.link })

    same_fields : (fields : List FieldNo) (r : R) → k.link_fields (linked_all k names types owner n fields r) ≡ k.link_fields r
    unfolding linked
    same_fields [] r = refl
    same_fields (f ∷ fs) r = same_fields fs (linked k names types owner n f r) ∙ fields_by r f (k.link r f)

    -- Holds if a field is still to be resolved and has its first link, or is resolved.
    abbrev Due : Option LinkField → List FieldNo → R → FieldNo → Type 0
    Due first fields r g = ((i : ℕ) × (slice_get fields i ≡ Some g) × (k.link r g ≡ first)) ⊎ (k.link r g ≡ resolved first)

    due_here : (first : Option LinkField) (f : FieldNo) (fs : List FieldNo) (r : R) → Due first (f ∷ fs) r f → Due first fs (linked k names types owner n f r) f
    due_here first f fs r due = inr (linked_here r f ∙ ⊎_elim (λ at. ap resolved at.2) (λ e. ap resolved e ∙ resolved_twice first) due)

    later : (first : Option LinkField) (f g : FieldNo) (fs : List FieldNo) (r s : R) → g ≢ f → k.link s g ≡ k.link r g
        → (i : ℕ) → slice_get (f ∷ fs) i ≡ Some g → k.link r g ≡ first → Due first fs s g
    later first f g fs r s apart same zero at is = absurd (apart (sym (same_field f g at)))
    later first f g fs r s apart same (suc i) at is = inl (i, at, same ∙ is)

    due_there : (first : Option LinkField) (f g : FieldNo) (fs : List FieldNo) (r : R) → g ≢ f → Due first (f ∷ fs) r g → Due first fs (linked k names types owner n f r) g
    due_there first f g fs r apart due =
        ⊎_elim (λ at. later first f g fs r (linked k names types owner n f r) apart (linked_there r f g apart) at.0 at.1 at.2) (λ e. inr (linked_there r f g apart ∙ e)) due

    due_step : (first : Option LinkField) (f g : FieldNo) (fs : List FieldNo) (r : R) → Due first (f ∷ fs) r g → Due first fs (linked k names types owner n f r) g
    due_step first f g fs r due =
        ⊎_elim (λ e. subst (λ (h : FieldNo). Due first (f ∷ fs) r h → Due first fs (linked k names types owner n f r) h) (sym e) (due_here first f fs r) due)
        (λ apart. due_there first f g fs r apart due)
        (field_cases g f)

    all_due : (first : Option LinkField) (g : FieldNo) (fields : List FieldNo) (r : R) → Due first fields r g → k.link (linked_all k names types owner n fields r) g ≡ resolved first
    all_due first g [] r due = ⊎_elim (λ at. absurd (no_field g at.0 at.1)) (λ e. e) due
      where
        no_field : (g : FieldNo) (i : ℕ) → slice_get [] i ≡ Some g → ⊥
        no_field g i at = absurd cc
    all_due first g (f ∷ fs) r due = all_due first g fs (linked k names types owner n f r) (due_step first f g fs r due)

    due_first : (r : R) (g : FieldNo) (o : Option LinkField) → k.link r g ≡ o → Due o (k.link_fields r) r g
    due_first r g None is = inr is
    due_first r g (Some l) is =
        let type = k.record_type r in
        let at = stands_among_links type g (sym (lawful.link_there r g) ∙ some_is (k.link r g) l is) in
        let fields : k.link_fields r ≡ link_fields type = lawful.link_fields_are r ∙ sym (link_fields_are type) in
        inl (at.0, rw fields at.1, is)

    -- Each link of a record is resolved.
    links_resolved : (r : R) (g : FieldNo) → k.link (linked_all k names types owner n (k.link_fields r) r) g ≡ resolved (k.link r g)
    links_resolved r g = all_due (k.link r g) g (k.link_fields r) r (due_first r g (k.link r g) refl)

-- Whether the device that a link names, if it names one, has this name.
abbrev hits : Option (List ℕ) → Option (List ℕ) → Bool
hits name None = false
hits name (Some text) = is_named text (Some name)

nat_same : (n : ℕ) → nat_eq n n ≡ true
nat_same n = grind (arith, common_steps)

home_if : (n : ℕ) (b : Bool) → is_own (device_use (device_lead n (cond b (Some n) None))) ≡ b
home_if n true = rw (nat_same n) refl
home_if n false = refl

never_home : (flags : Flags) (o : Option FieldAddress) → is_own (database_use flags (lead_of o)) ≡ false
never_home flags None = refl
never_home flags (Some to) = refl

module _ (names : NameTable) (types : List RecordType) (own : DeviceNames) (n : ℕ) (name : Option (List ℕ)) (there : slice_get own n ≡ Some name) where
  link_home : (l : Link) → is_own (use_as l (leads_to names types (own_owner own n) n l)) ≡ hits name (device_of_link l)
  link_home Empty = refl
  link_home (Constant z) = refl
  link_home (Real text) = refl
  link_home (Device text) = rw there (home_if n (is_named text (Some name)))
  link_home (Database target flags) = never_home flags (standing_of names types target)

  field_home : (o : Option LinkField) → leads_home (resolved names types (own_owner own n) n o) ≡ hits name (device_of_field o)
  unfolding use_of
  field_home None = refl
  field_home (Some l) = link_home l.link

module _ (link : FieldNo → Option LinkField) where
  no_hit : (o : Option (List ℕ)) → hits None o ≡ false
  no_hit None = refl
  no_hit (Some text) = refl

  none_hits : (fields : List FieldNo) → list_any (λ f. hits None (device_of_field (link f))) fields ≡ false
  none_hits [] = refl
  none_hits (f ∷ fs) = rw (no_hit (device_of_field (link f))) (none_hits fs)

  same_name : (text name : List ℕ) → Some text ≡ Some name → text ≡ name
  same_name text name e = cc

  found : (name : List ℕ) (o more : Option (List ℕ)) (b : Bool) → (more ≡ Some name → b ≡ true) → option_or o more ≡ Some name → hits (Some name) o || b ≡ true
  found name None more b rest e = rest e
  found name (Some text) more b rest e =
      let same : name ≡ text = sym (same_name text name e) in
      rw ((bytes_eq-Decides name text).1 same) refl

  some_hits : (name : List ℕ) (fields : List FieldNo) → first_device link fields ≡ Some name → list_any (λ f. hits (Some name) (device_of_field (link f))) fields ≡ true
  some_hits name [] e = absurd cc
  some_hits name (f ∷ fs) e = found name (device_of_field (link f)) (first_device link fs) _ (some_hits name fs) e

  hits_if : (fields : List FieldNo) (name : Option (List ℕ)) → first_device link fields ≡ name → list_any (λ f. hits name (device_of_field (link f))) fields ≡ is_some name
  hits_if fields None e = none_hits fields
  hits_if fields (Some name) e = some_hits name fields e

  first_same : (after : FieldNo → Option LinkField) → ((f : FieldNo) → device_of_field (after f) ≡ device_of_field (link f)) → (fields : List FieldNo) → first_device after fields ≡ first_device link fields
  first_same after same [] = refl
  first_same after same (f ∷ fs) = rw (same f, first_same after same fs) refl

module _ {R : Type 0} (k : RecordRules R) (lawful : IsLawful k) (names : NameTable) (types : List RecordType) (own : DeviceNames) where
  own_device : (n : ℕ) (r : R) → slice_get own n ≡ Some (device_named k r) → HasOwnDevice k (own_linked k names types own n r)
  unfolding owns_device device_named own_linked
  own_device n r there =
      let owner = own_owner own n in
      let after = linked_all k names types owner n (k.link_fields r) r in
      let name = first_device (k.link r) (k.link_fields r) in
      let fields : k.link_fields after ≡ k.link_fields r = same_fields names types owner n k lawful (k.link_fields r) r in
      let is : (f : FieldNo) → k.link after f ≡ resolved names types owner n (k.link r f) = links_resolved names types owner n k lawful r in
      let homes : (f : FieldNo) → leads_home (k.link after f) ≡ hits name (device_of_field (k.link r f)) = λ f. ap leads_home (is f) ∙ field_home names types own n name there (k.link r f) in
      let home : (λ (f : FieldNo). leads_home (k.link after f)) ≡ (λ (f : FieldNo). hits name (device_of_field (k.link r f))) = (λ j f. (homes f) j) in
      let named : first_device (k.link after) (k.link_fields after) ≡ name =
      ap (first_device (k.link after)) fields
      ∙ first_same (k.link r) (k.link after) (λ f. ap device_of_field (is f) ∙ same_device names types owner n (k.link r f)) (k.link_fields r)
      in
      ap (list_any (λ f. leads_home (k.link after f))) fields
      ∙ ap (λ (p : FieldNo → Bool). list_any p (k.link_fields r)) home
      ∙ hits_if (k.link r) (k.link_fields r) name refl
      ∙ ap (λ (o : Option (List ℕ)). is_some o) (sym named)

  own_at : (n : ℕ) (rs : List R) → ((i : ℕ) → slice_get own (n + i) ≡ slice_get (device_names k rs) i) → All (HasOwnDevice k) (by_place (own_linked k names types own) n rs)
  own_at n [] same i d lt = absurd (omega arith)
  own_at n (r ∷ rs) same zero d lt =
      let e : n + 0 ≡ n = omega arith in
      own_device n r (ap (slice_get own) (sym e) ∙ same zero)
  own_at n (r ∷ rs) same (suc i) d lt =
      let within : i < length (by_place (own_linked k names types own) (n + 1) rs) = omega (arith, lt) in
      own_at (n + 1) rs (λ j. let e : (n + 1) + j ≡ n + suc j = omega arith in ap (slice_get own) e ∙ same (suc j)) i d within

-- Each record has a device of its own if a link of it names one.
pub own_devices : (names : NameTable) (rs items : List Record) → items ≡ with_own_devices record_rules names rs → All (HasOwnDevice record_rules) items
own_devices names rs items same =
    subst (All (HasOwnDevice record_rules)) (sym same)
    (own_at record_rules record_lawful names (map record_rules.record_type rs) (device_names record_rules rs) 0 rs (λ i. let e : 0 + i ≡ i = omega arith in ap (slice_get (device_names record_rules rs)) e))
