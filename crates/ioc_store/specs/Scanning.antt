-- The place of a record on the scan lists, and what changes it.
--
-- Record Reference Manual, "Scan Fields"; Application Developer's Guide, "Scanning Specification"
-- (scanAdd, scanDelete).
use Rattle.std.specs.Prelude.{ℕ, ◌+◌, ◌-◌, ◌^◌, nat_lt, nat_eq, ◌==◌, length, Bool, true, false, if◌then◌else◌, List, [], Option, Some}
use Rattle.std.specs.Prelude.{None as Nothing_}
use Rattle.std.specs.Cmp.Lexicographic.{pointwise}
use Rattle.ioc_fields.specs.declared.field_no.FieldNo.{FieldNo}
use Rattle.ioc_fields.specs.declared.field_no.FieldNo.TheVariants.{Common as Common-field, Own}
use Rattle.ioc_fields.specs.declared.field_no.OwnField.TheVariants.{Inp, Out}
use Rattle.ioc_fields.specs.declared.field_no.CommonField.TheVariants.{Scan, Phas, Prio, Evnt}
use Rattle.ioc_dbcommon.specs.declared.link_field.LinkField.{LinkField}
use Rattle.ioc_dbcommon.specs.Links.{device_text}
use Rattle.ioc_dbcommon.specs.Steps.{change_numbered}
use Rattle.ioc_record.specs.RecordRules.{RecordRules}
use Rattle.ioc_store.specs.declared.outbox.OutboxItem.TheVariants.{Change}
use Rattle.ioc_store.specs.World.{World, at, common_at, put, changed, sent, lost}

-- Holds of the fields that determine the scan list: a put to one of them removes the record from
-- its scan list and adds it again.
abbrev pub places_record : FieldNo → Bool
places_record (Common-field Scan) = true
places_record (Common-field Phas) = true
places_record (Common-field Prio) = true
places_record (Common-field Evnt) = true
places_record _ = false

-- The text of the device link in a field; empty if there is none.
abbrev pub text_in : Option LinkField → List ℕ
text_in Nothing_ = []
text_in (Some field) = device_text field.link

module _ {R : Type 0} (k : RecordRules R) where
  -- The text of the record's device link, in INP or OUT; empty if it has none.
  unfoldable pub device_of : R → List ℕ
  device_of r = let input = text_in (k.link r (Own Inp)) in if length input == 0 then text_in (k.link r (Own Out)) else input

  -- Record `n` leaves its scan list and joins the one that its fields and its device link name now:
  -- a change is sent, with the next of the numbers 1, 2, 3, ... of this record. Past the last
  -- number the change is dropped.
  unfoldable pub moved : World R → ℕ → World R
  moved w n =
      let last = (common_at k w n).last_change in
      if nat_lt last (2 ^ 64 - 1)
      then sent (Change (record { target = n; number = last + 1; scanning = (common_at k w n).scanning; device = device_of (at k w n) })) (changed k w n change_numbered)
      else lost w

  -- The effect of a put to this field of record `n` on the scan lists.
  unfoldable pub rescanned : World R → ℕ → FieldNo → World R
  rescanned w n field = if places_record field then moved w n else w

  -- The effect on the scan lists of a changed link of record `n`, whose device link had the text
  -- `before`.
  unfoldable pub rewired : List ℕ → World R → ℕ → World R
  rewired before w n = if pointwise nat_eq before (device_of (at k w n)) then w else moved w n

  -- Record `n` with another link in the field, and a change of its scan list sent if its device
  -- link differs. This does not ask whether the record that the link leads to exists.
  abbrev pub with_link_changed : World R → ℕ → FieldNo → LinkField → World R
  with_link_changed w n field link = rewired (device_of (at k w n)) (put w n (k.with_link (at k w n) field link)) n
