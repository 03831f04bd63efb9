-- A loaded database is quiet: new records are idle, and stay so when a field is set and when the
-- load ends.
use Rattle.std.proofs.Common.{◌≡◌, ℕ, zero, suc, ◌+◌, Bool, true, false, cond, List, [], ◌∷◌, ◌++◌, map, Option, Some, None, Result, Ok, Err, IsTrue, refl, sym, ap, subst, ◌∙◌, arith}
use Rattle.std.specs.Prelude.{◌<◌, OnErr, All, length, slice_get, slice_set, is_some, unwrap_or}
use Rattle.ioc_values.specs.declared.value.Value.{Value}
use Rattle.ioc_values.specs.declared.error.IocError.{IocError}
use Rattle.ioc_values.specs.declared.error.BadDbKind.{BadDbKind}
use Rattle.ioc_calc.specs.declared.compiling.CalcFaultKind.{CalcFaultKind}
use Rattle.ioc_dbcommon.specs.Calculation.{calculation_of}
use Rattle.ioc_names.specs.NameTable.{NameTable}
use Rattle.ioc_links.specs.declared.link.Link.{Link}
use Rattle.ioc_links.specs.Grammar.{link_of}
use Rattle.ioc_fields.specs.declared.record_type.RecordType.{RecordType}
use Rattle.ioc_fields.specs.declared.field_no.FieldNo.{FieldNo}
use Rattle.ioc_fields.specs.declared.field_kind.FieldKind.{FieldKind}
use Rattle.ioc_fields.specs.declared.field_kind.FieldKind.TheVariants as kind
use Rattle.ioc_fields.specs.declared.row.Row.{Row}
use Rattle.ioc_fields.specs.Kinds.{link_kind_of}
use Rattle.ioc_fields.specs.Table.{row_of, kind_of}
use Rattle.ioc_dbcommon.specs.declared.link_field.LinkField.{LinkField}
use Rattle.ioc_dbcommon.specs.declared.link_field.Lead.TheVariants.{Nowhere}
use Rattle.ioc_dbcommon.specs.Steps.{new_common}
use Rattle.ioc_dbcommon.specs.declared.common.Common.{Common}
use Rattle.ioc_record.specs.Values.{field_sort, stored_if}
use Rattle.ioc_record.specs.Loading.{constant_fits, set_value, link_set_to, set_by_kind, set_by, set_field, calculation_set}
use Rattle.ioc_record.specs.Laws.{IsLawful}
use Rattle.ioc_record.specs.RecordRules.{RecordRules}
use Rattle.rec_types.specs.Record.{Record, record_rules, new_record}
use Rattle.rec_types.specs.RecordLaws.{record_lawful}
use Rattle.ioc_dbfile.specs.FirstWorld.{first_world}
use Rattle.ioc_store.specs.OneMapLaws.{get-numbered}
use Rattle.ioc_store.specs.World.{at, common_at}
use Rattle.ioc_process.specs.Rules.{IsQuiet}
use Rattle.ioc_dbfile.specs.Finished.{with_standing, linked, linked_all, finished, by_place, Owner}
use Rattle.ioc_dbfile.specs.Loader.{Loading, set_at, set_to, with_set, value_outcome, expression_outcome, holds_expression}
use Rattle.ioc_dbfile.specs.Idle.{IsIdle, AllIdle}
use Rattle.ioc_dbfile.specs.OwnDevices.{DeviceNames, own_owner, device_names, own_linked, with_own_devices}
use Rattle.ioc_dbparse.specs.declared.builder.BuildError.{BuildError}
use Rattle.ioc_dbparse.specs.declared.builder.BuildError.TheVariants.{Memory, Refused}
use Rattle.ioc_dbparse.specs.Rules.{Builds}

module _ {R : Type 0} (k : RecordRules R) where
  pub all-append : (rs : List R) (r : R) → AllIdle k rs → IsIdle k r → AllIdle k (rs ++ r ∷ [])
  all-append [] r idle new = (new, tt)
  all-append (q ∷ qs) r idle new = (idle.0, all-append qs r idle.1 new)

  pub all-set : (rs : List R) (n : ℕ) (r : R) → AllIdle k rs → IsIdle k r → AllIdle k (slice_set rs n r)
  all-set [] n r idle set = tt
  all-set (q ∷ qs) zero r idle set = (set, idle.1)
  all-set (q ∷ qs) (suc n) r idle set = (idle.0, all-set qs n r idle.1 set)

  pub idle-at : (rs : List R) (n : ℕ) (r : R) → AllIdle k rs → slice_get rs n ≡ Some r → IsIdle k r
  idle-at [] n r idle is = cc
  idle-at (q ∷ qs) zero r idle is = let same : q ≡ r = cc in subst (IsIdle k) same idle.0
  idle-at (q ∷ qs) (suc n) r idle is = idle-at qs n r idle.1 is

  pub all-at : (rs : List R) → AllIdle k rs → All (IsIdle k) rs
  all-at [] idle i d lt = absurd (omega arith)
  all-at (q ∷ qs) idle zero d lt = idle.0
  all-at (q ∷ qs) idle (suc i) d lt = let within : i < length qs = omega arith in all-at qs idle.1 i d within

  all-by : (rs : List R) → All (IsIdle k) rs → AllIdle k rs
  all-by [] all = tt
  all-by (q ∷ qs) all = (all zero q (omega arith), all-by qs (λ i d lt. let within : suc i < suc (length qs) = omega (arith, lt) in all (suc i) d within))

  idle-there : (rs : List R) (n : ℕ) → AllIdle k rs → IsTrue (is_some (slice_get rs n)) → IsIdle k (unwrap_or (slice_get rs n) k.missing)
  idle-there [] n idle has = cc
  idle-there (q ∷ qs) zero idle has = idle.0
  idle-there (q ∷ qs) (suc n) idle has = idle-there qs n idle.1 has

  -- Holds if the resulting record, if there is one, is idle.
  abbrev IdleIfMade : Result R IocError → Type 0
  IdleIfMade (Ok r) = IsIdle k r
  IdleIfMade (Err e) = Unit {0}

  abbrev IdleIfSet : Result R BadDbKind → Type 0
  IdleIfSet (Ok r) = IsIdle k r
  IdleIfSet (Err kind) = Unit {0}

  module _ (lawful : IsLawful k) where
    link-idle : (r : R) (f : FieldNo) (l : LinkField) → IsIdle k r → IsIdle k (k.with_link r f l)
    link-idle r f l idle = record { active = lawful.link_set_active r f l ∙ idle.active; pending = lawful.link_set_pending r f l ∙ idle.pending; free = ap (λ (c : Common). c.notification) (lawful.link_set_common r f l) ∙ idle.free }

    stored-idle : (r : R) (f : FieldNo) (o : Result Value IocError) → IsIdle k r → IdleIfMade (stored_if k r f o)
    stored-idle r f (Ok v) idle = record { active = lawful.stored_active r f v ∙ idle.active; pending = lawful.stored_pending r f v ∙ idle.pending; free = ap (λ (c : Common). c.notification) (lawful.stored_common r f v) ∙ idle.free }
    stored-idle r f (Err e) idle = tt

    fits-idle : (r : R) (f : FieldNo) (link : Link) (fits : Bool) (e : IocError) → IsIdle k r → IdleIfMade (cond fits (Ok (k.with_link r f (record { link = link; lead = Nowhere }))) (Err e))
    fits-idle r f link true e idle = link-idle r f _ idle
    fits-idle r f link false e idle = tt

    link_set-idle : (r : R) (f : FieldNo) (o : Option Link) → IsIdle k r → IdleIfMade (link_set_to k r f o)
    link_set-idle r f None idle = tt
    link_set-idle r f (Some link) idle = fits-idle r f link (constant_fits (k.constant_kind r f) link) _ idle

    kind-idle : (r : R) (f : FieldNo) (text : List ℕ) (kind : FieldKind) → IsIdle k r → IdleIfMade (set_by_kind k r f text kind)
    unfolding set_by_kind
    kind-idle r f text (kind.Link role) idle = link_set-idle r f (link_of (link_kind_of role) text) idle
    kind-idle r f text kind.Expression idle = tt
    kind-idle r f text other idle = stored-idle r f (set_value (field_sort (k.states r) other) text) idle

    can-idle : (can : Bool) (o : Result R IocError) (e : IocError) → IdleIfMade o → IdleIfMade (cond can o (Err e))
    can-idle true o e made = made
    can-idle false o e made = tt

    row-idle : (r : R) (f : FieldNo) (text : List ℕ) (row : Option Row) → IsIdle k r → IdleIfMade (set_by k r f text row)
    row-idle r f text None idle = tt
    row-idle r f text (Some row) idle = can-idle row.can_set (set_by_kind k r f text row.kind) _ (kind-idle r f text row.kind idle)

    set-idle : (r : R) (f : FieldNo) (text : List ℕ) → IsIdle k r → IdleIfMade (set_field k r f text)
    unfolding set_field
    set-idle r f text idle = row-idle r f text (row_of (k.record_type r) f) idle

    value-idle : (o : Result R IocError) → IdleIfMade o → IdleIfSet (value_outcome k o)
    value-idle (Ok r) idle = idle
    value-idle (Err e) idle = tt

    expression-idle : (r : R) (f : FieldNo) (o : Result (List ℕ) CalcFaultKind) → IsIdle k r → IdleIfSet (expression_outcome k (calculation_set k r f o))
    expression-idle r f (Ok c) idle = record {
      active = ap (λ (c : Common). c.active) (lawful.calculated_common r f c) ∙ idle.active;
      pending = ap (λ (c : Common). c.pending) (lawful.calculated_common r f c) ∙ idle.pending;
      free = ap (λ (c : Common). c.notification) (lawful.calculated_common r f c) ∙ idle.free;
    }
    expression-idle r f (Err fault) idle = tt

    either-idle : (holds : Bool) (o p : Result R BadDbKind) → IdleIfSet o → IdleIfSet p → IdleIfSet (cond holds o p)
    either-idle true o p one other = one
    either-idle false o p one other = other

    to-idle : (r : R) (f : FieldNo) (text : List ℕ) → IsIdle k r → IdleIfSet (set_to k r f text)
    unfolding set_to
    to-idle r f text idle = either-idle (holds_expression (kind_of (k.record_type r) f)) _ _ (expression-idle r f (calculation_of text) idle) (value-idle _ (set-idle r f text idle))

    -- Setting a field leaves a record idle.
    pub set_to-idle : (r r' : R) (f : FieldNo) (text : List ℕ) → set_to k r f text ≡ Ok r' → IsIdle k r → IsIdle k r'
    set_to-idle r r' f text is idle = subst IdleIfSet is (to-idle r f text idle)

    -- So does a field that couldn't be set.
    pub built-idle : {X : Type 0} (result : Result X BuildError) (old new : R) (f : FieldNo) (text : List ℕ) → Builds (λ _. new) result (set_to k old f text)
        → OnErr result (new ≡ old) → IsIdle k old → IsIdle k new
    built-idle (Ok x) old new f text built same idle = set_to-idle old new f text built idle
    built-idle (Err e) old new f text built same idle = subst (IsIdle k) (sym same) idle

    module _ (names : NameTable) (types : List RecordType) (owner : Owner) where
      standing-idle : (n : ℕ) (r : R) (f : FieldNo) (o : Option LinkField) → IsIdle k r → IsIdle k (with_standing k names types owner n r f o)
      standing-idle n r f None idle = idle
      standing-idle n r f (Some l) idle = link-idle r f _ idle

      linked-idle : (n : ℕ) (r : R) (f : FieldNo) → IsIdle k r → IsIdle k (linked k names types owner n f r)
      unfolding linked
      linked-idle n r f idle = standing-idle n r f (k.link r f) idle

      all_linked-idle : (n : ℕ) (fields : List FieldNo) (r : R) → IsIdle k r → IsIdle k (linked_all k names types owner n fields r)
      all_linked-idle n [] r idle = idle
      all_linked-idle n (f ∷ fs) r idle = all_linked-idle n fs (linked k names types owner n f r) (linked-idle n r f idle)

      loaded-idle : (r : R) → IsIdle k r → IsIdle k (k.loaded r)
      loaded-idle r idle = record { active = lawful.loaded_active r ∙ idle.active; pending = lawful.loaded_pending r ∙ idle.pending; free = ap (λ (c : Common). c.notification) (lawful.loaded_common r) ∙ idle.free }

      finished-idle : (n : ℕ) (r : R) → IsIdle k r → IsIdle k (finished k names types owner n r)
      unfolding finished
      finished-idle n r idle = loaded-idle _ (all_linked-idle n (k.link_fields r) r idle)

      all-finished : (n : ℕ) (rs : List R) → AllIdle k rs → AllIdle k (by_place (finished k names types owner) n rs)
      all-finished n [] idle = tt
      all-finished n (r ∷ rs) idle = (finished-idle n r idle.0, all-finished (n + 1) rs idle.1)

-- Setting a field of one record leaves the other records as they are.
pub set-made : (names : NameTable) (items : List Record) (n : ℕ) (f : FieldNo) (text : List ℕ) (old : Record) → slice_get items n ≡ Some old
    → set_at record_rules new_record n f text (record { names = names; records = items })
    ≡ with_set record_rules new_record (record { names = names; records = items }) n (set_to record_rules old f text)
unfolding set_at
set-made names items n f text old is = rw is refl

pub set-built : {X : Type 0} (result : Result X BuildError) (names : NameTable) (items : List Record) (n : ℕ) (f : FieldNo) (text : List ℕ) (old new : Record) → slice_get items n ≡ Some old
    → Builds (λ _. new) result (set_to record_rules old f text)
    → Builds {Y = Loading Record} (λ _. record { names = names; records = slice_set items n new }) result (set_at record_rules new_record n f text (record { names = names; records = items }))
set-built (Ok x) names items n f text old new is built = set-made names items n f text old is ∙ ap (with_set record_rules new_record (record { names = names; records = items }) n) built
set-built (Err Memory) names items n f text old new is built = tt
set-built (Err (Refused kind)) names items n f text old new is built = set-made names items n f text old is ∙ ap (with_set record_rules new_record (record { names = names; records = items }) n) built

-- A new record is idle.
pub new-idle : (type : RecordType) (name : List ℕ) → IsIdle record_rules (new_record type name)
unfolding new_common
new-idle type name = record { active = refl; pending = refl; free = refl }

-- Idle records are quiet.
idle-quiet : (items : List Record) → AllIdle record_rules items → IsQuiet record_rules (first_world items)
unfolding at first_world
idle-quiet items made = record {
  quiet = λ n has.
      let here = idle-there record_rules items n made (rw get-numbered at has) in
      let there : at record_rules (first_world items) n ≡ unwrap_or (slice_get items n) record_rules.missing = rw get-numbered refl in
      rw (common_at, there, here.active, here.pending) (λ h. h, λ h. h);
}

-- The records are quiet at the end of a load.
pub finished_quiet : (names : NameTable) (owner : Owner) (rs items : List Record) → items ≡ by_place (finished record_rules names (map record_rules.record_type rs) owner) 0 rs
    → AllIdle record_rules rs → IsQuiet record_rules (first_world items)
finished_quiet names owner rs items same idle =
    idle-quiet items (subst (AllIdle record_rules) (sym same) (all-finished record_rules record_lawful names (map record_rules.record_type rs) owner 0 rs idle))

-- The records are idle at the end of a load.
pub finished_idle : (names : NameTable) (owner : Owner) (rs items : List Record) → items ≡ by_place (finished record_rules names (map record_rules.record_type rs) owner) 0 rs
    → AllIdle record_rules rs → All (IsIdle record_rules) items
finished_idle names owner rs items same idle =
    all-at record_rules items (subst (AllIdle record_rules) (sym same) (all-finished record_rules record_lawful names (map record_rules.record_type rs) owner 0 rs idle))

-- Records stay idle when they get devices of their own.
own-idle : (names : NameTable) (types : List RecordType) (own : DeviceNames) (n : ℕ) (rs : List Record) → AllIdle record_rules rs → AllIdle record_rules (by_place (own_linked record_rules names types own) n rs)
unfolding own_linked
own-idle names types own n [] idle = tt
own-idle names types own n (r ∷ rs) idle =
    (all_linked-idle record_rules record_lawful names types (own_owner own n) n (record_rules.link_fields r) r idle.0, own-idle names types own (n + 1) rs idle.1)

own-made : (names : NameTable) (rs items : List Record) → items ≡ with_own_devices record_rules names rs → All (IsIdle record_rules) rs → AllIdle record_rules items
own-made names rs items same idle =
    subst (AllIdle record_rules) (sym same) (own-idle names (map record_rules.record_type rs) (device_names record_rules rs) 0 rs (all-by record_rules rs idle))

pub own_quiet : (names : NameTable) (rs items : List Record) → items ≡ with_own_devices record_rules names rs → All (IsIdle record_rules) rs → IsQuiet record_rules (first_world items)
own_quiet names rs items same idle = idle-quiet items (own-made names rs items same idle)

pub own_idle : (names : NameTable) (rs items : List Record) → items ≡ with_own_devices record_rules names rs → All (IsIdle record_rules) rs → All (IsIdle record_rules) items
own_idle names rs items same idle = all-at record_rules items (own-made names rs items same idle)
