-- Steps on common fields keep a record as active as it was and leave its links unchanged.
use Rattle.std.proofs.Common.{◌≡◌, Bool, true, false, cond, ◌||◌, refl, ap, ◌∙◌}
use Rattle.std.specs.Prelude.{nat_lt, Option, Result, Ok, Err}
use Rattle.ioc_values.specs.declared.error.IocError.{IocError}
use Rattle.ioc_record.specs.Values.{stored_if}
use Rattle.ioc_menus.specs.declared.severity.Severity.{Severity}
use Rattle.ioc_menus.specs.declared.status.Status.{Status}
use Rattle.ioc_links.specs.declared.link.Mode.{Mode}
use Rattle.ioc_fields.specs.declared.field_no.FieldNo.{FieldNo}
use Rattle.ioc_alarms.specs.Alarms.{is_invalid}
use Rattle.ioc_values.specs.declared.value.Value.{Value}
use Rattle.ioc_values.specs.declared.value.Finished.{Finished}
use Rattle.ioc_dbcommon.specs.declared.common.Common.{Common}
use Rattle.ioc_dbcommon.specs.declared.link_field.LinkField.{LinkField}
use Rattle.ioc_dbcommon.specs.declared.body.Got.{Got}
use Rattle.ioc_dbcommon.specs.Links.{named_by_all}
use Rattle.ioc_dbcommon.specs.Steps.{raised, inherited, blocked, is_scan}
use Rattle.ioc_record.specs.RecordRules.{RecordRules, targets}
use Rattle.ioc_record.specs.Laws.{IsLawful}
use Rattle.ioc_store.specs.World.{SameLinks}

-- Holds if the links among the common fields are equal.
abbrev pub OwnLinks : Common → Common → Type 0
OwnLinks before after = (after.disable_link ≡ before.disable_link) × (after.forward_link ≡ before.forward_link)

-- The fields that these steps leave unchanged.
pub record SameFrame (before after : Common) : Type 0 where
  pub active : after.active ≡ before.active
  pub links : OwnLinks before after
  pub pending : after.pending ≡ before.pending
  pub notification : after.notification ≡ before.notification

same_if : (b : Bool) (c d e : Common) → SameFrame c d → SameFrame c e → SameFrame c (cond b d e)
same_if true c d e left right = left
same_if false c d e left right = right

same : (c : Common) → SameFrame c c
same c = record { active = refl; links = (refl, refl); pending = refl; notification = refl }

pub raised-frame : (status : Status) (severity : Severity) (c : Common) → SameFrame c (raised status severity c)
raised-frame new-status severity c = record { active = refl; links = (refl, refl); pending = refl; notification = refl }

pub inherited-frame : (mode : Mode) (status : Status) (severity : Severity) (c : Common) → SameFrame c (inherited mode status severity c)
inherited-frame mode new-status severity c = record { active = refl; links = (refl, refl); pending = refl; notification = refl }

pub blocked-frame : (c : Common) → SameFrame c (blocked c)
unfolding blocked
blocked-frame c =
    same_if (is_scan c.condition.alarms.status) _ _ _ (same c)
    (same_if (nat_lt c.lock_count 10 || is_invalid c.condition.alarms.severity) c _ _ (record { active = refl; links = (refl, refl); pending = refl; notification = refl })
    (record { active = refl; links = (refl, refl); pending = refl; notification = refl }))

-- A successful put stores some value.
pub stored_with : {R : Type 0} (k : RecordRules R) (r r' : R) (f : FieldNo) (value : Result Value IocError) → stored_if k r f value ≡ Ok r' → (v : Value) × (k.stored r f v ≡ r')
stored_with k r r' f (Ok v) is = (v, cc)
stored_with k r r' f (Err e) is = cc

module _ {R : Type 0} (k : RecordRules R) (lawful : IsLawful k) where
  -- Equal links name the same records.
  pub targets_same : {r r' : R} → SameLinks k r r' → targets k r' ≡ targets k r
  targets_same {r} {r'} same = ap (λ (l : FieldNo → Option LinkField). named_by_all l (k.link_fields r')) same.links ∙ ap (named_by_all (k.link r)) same.fields

  pub links-set : (r : R) (c : Common) → OwnLinks (k.common r) c → SameLinks k r (k.with_common r c)
  links-set r c same = record { record_type = lawful.type_set r c; fields = lawful.link_fields_set r c; links = lawful.links_set r c same.0 same.1 }

  pub links-taken : (r : R) (got : Got) → SameLinks k r (k.taken r got)
  links-taken r got = record { record_type = lawful.taken_type r got; fields = lawful.taken_link_fields r got; links = lawful.taken_links r got }

  pub links-finished : (r : R) (x : Finished) → SameLinks k r (k.finished r x)
  links-finished r x = record { record_type = lawful.finished_type r x; fields = lawful.finished_link_fields r x; links = lawful.finished_links r x }

  pub links-stored : (r : R) (f : FieldNo) (v : Value) → SameLinks k r (k.stored r f v)
  links-stored r f v = record { record_type = lawful.stored_type r f v; fields = lawful.stored_link_fields r f v; links = lawful.stored_links r f v }

  pub targets-set : (r : R) (c : Common) → OwnLinks (k.common r) c → targets k (k.with_common r c) ≡ targets k r
  targets-set r c same = targets_same (links-set r c same)

  pub targets-stored : (r : R) (f : FieldNo) (v : Value) → targets k (k.stored r f v) ≡ targets k r
  targets-stored r f v = targets_same (links-stored r f v)

  pub links-posted : (r : R) (changes : Bool) → SameLinks k r (k.posted r changes)
  links-posted r changes = record {
    record_type = lawful.posted_type r changes;
    fields = lawful.posted_link_fields r changes;
    links = lawful.posted_links r changes;
  }

  pub targets-posted : (r : R) (changes : Bool) → targets k (k.posted r changes) ≡ targets k r
  targets-posted r changes = targets_same (links-posted r changes)

  pub targets-taken : (r : R) (got : Got) → targets k (k.taken r got) ≡ targets k r
  targets-taken r got = targets_same (links-taken r got)

  pub targets-finished : (r : R) (x : Finished) → targets k (k.finished r x) ≡ targets k r
  targets-finished r x = targets_same (links-finished r x)
