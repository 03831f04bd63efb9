-- What a body examines before it uses a link. Record Reference Manual, "Database Links";
-- Application Developer's Guide, "Database Links".
use Rattle.std.specs.Prelude.{ℕ, ◌/◌, ◌%◌, ◌^◌, ◌==◌, ◌&&◌, ◌||◌, if◌then◌else◌, Bool, true, false, List, filter, Option, Some}
use Rattle.std.specs.Prelude.{None as Nothing_}
use Rattle.ioc_fields.specs.Names.{all_slots}
use Rattle.ioc_fields.specs.Slots.{slot_number}
use Rattle.ioc_fields.specs.declared.field_no.FieldNo.{FieldNo}
use Rattle.ioc_fields.specs.declared.field_no.FieldNo.TheVariants.{Common as Common-field, Own}
use Rattle.ioc_fields.specs.declared.field_no.OwnField.TheVariants.{Lnk, InputLink}
use Rattle.ioc_fields.specs.declared.field_no.CommonField.TheVariants.{Proc}
use Rattle.ioc_fields.specs.declared.field_no.FieldSlot.{FieldSlot}
use Rattle.ioc_dbcommon.specs.declared.link_field.LinkField.{LinkField}
use Rattle.ioc_dbcommon.specs.declared.link_field.LinkUse.{LinkUse}
use Rattle.ioc_dbcommon.specs.declared.link_field.LinkUse.TheVariants.{Unused}
use Rattle.ioc_dbcommon.specs.declared.link_field.StandingLink.{StandingLink}
use Rattle.ioc_dbcommon.specs.Links.{use_of, record_named}
use Rattle.ioc_dbcommon.specs.Steps.{inherited, is_passive}
use Rattle.ioc_record.specs.RecordRules.{RecordRules}
use Rattle.ioc_store.specs.World.{World, at, common_at, changed}

-- Holds of PROC: a put to it processes the record.
abbrev pub is_proc : FieldNo → Bool
is_proc (Common-field Proc) = true
is_proc _ = false

-- Holds if the bit of this link number is set.
abbrev pub is_chosen : ℕ → FieldSlot → Bool
is_chosen links slot = (links / 2 ^ slot_number slot) % 2 == 1

-- The link numbers whose bits are set, from the lowest on.
unfoldable pub chosen_links : ℕ → List FieldSlot
chosen_links links = filter (is_chosen links) all_slots

-- How a body uses a link field.
abbrev pub use_of_field : Option LinkField → LinkUse
use_of_field Nothing_ = Unused
use_of_field (Some field) = use_of field

module _ {R : Type 0} (k : RecordRules R) where
  -- The link with this number.
  abbrev pub link_at : World R → ℕ → FieldSlot → LinkUse
  link_at w s slot = use_of_field (k.link (at k w s) (Own (Lnk slot)))

  -- The input with this number.
  abbrev pub input_at : World R → ℕ → FieldSlot → LinkUse
  input_at w s slot = use_of_field (k.link (at k w s) (Own (InputLink slot)))

  -- Holds if the record that a link names is requested before it is read: the link has PP, and the
  -- record is passive.
  abbrev pub requests_first : World R → StandingLink → Bool
  requests_first w t = t.process_passive && is_passive (common_at k w t.number)

  -- Holds if the record that a link names is requested after it is written: the link leads to PROC,
  -- or it has PP and the record is passive.
  abbrev pub requests_after : World R → StandingLink → Bool
  requests_after w t = is_proc t.field || requests_first w t

  -- The record that is written takes over the alarm that its source raises.
  unfoldable pub handed_on : World R → ℕ → StandingLink → World R
  handed_on w s t =
      let from = (common_at k w s).condition.alarms in
      changed k w t.number (inherited t.mode from.new_status from.new_severity)

  -- The record that a link names, if it is passive: it is requested when the link is followed.
  abbrev pub passive_record : World R → Option ℕ → Option ℕ
  passive_record w (Some n) = if is_passive (common_at k w n) then Some n else Nothing_
  passive_record w Nothing_ = Nothing_

  abbrev pub passive_named : World R → LinkUse → Option ℕ
  passive_named w link = passive_record w (record_named link)
