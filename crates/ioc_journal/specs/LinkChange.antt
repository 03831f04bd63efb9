-- Link changes, by the records that they concern. Application Developer's Guide, "Database Links";
-- "Database Locking, Scanning, and Processing": a changed link parts lock sets or joins them.
use Rattle.ioc_events.specs.declared.event.Call.TheVariants as call
use Rattle.std.specs.Prelude.{◌≡◌, ℕ, List, [], true, false, is_some, Ok}
use Rattle.ioc_fields.specs.declared.field_no.FieldNo.{FieldNo}
use Rattle.ioc_dbcommon.specs.declared.link_field.LinkField.{LinkField}
use Rattle.ioc_record.specs.RecordRules.{RecordRules}
use Rattle.ioc_record.specs.Values.{stops_put}
use Rattle.ioc_store.specs.World.{World, Has, at, common_at}
use Rattle.ioc_journal.specs.declared.entry.Note.{Note}
use Rattle.ioc_journal.specs.Key.{Key}

-- Holds if this field of this record is a link that may be changed.
pub record TakesLink {R : Type 0} (k : RecordRules R) (v : World R) (s : ℕ) (field : FieldNo) : Type 0 where
  pub there : Has v s
  pub has_link : is_some (k.link (at k v s) field) ≡ true
  pub allowed : stops_put (common_at k v s) field ≡ false

-- The note of a link change that was done.
abbrev pub link_note : (desk call moment s : ℕ) → FieldNo → LinkField → List Key → Note
link_note desk number moment s field link keys =
    record { entry = record { desk = desk; call = number; entry = record { moment = moment; call = call.Link s field link (Ok tt); answers = [] } }; keys = keys }
