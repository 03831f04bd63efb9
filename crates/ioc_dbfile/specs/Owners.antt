-- The record that owns each device. Application Developer's Guide, "Device Support": the record
-- that a device is bound to.
use Rattle.std.specs.Prelude.{ℕ, Bool, true, false, nat_eq, List, Option, Some, None, if◌then◌else◌}
use Rattle.std.specs.Cmp.Lexicographic.{pointwise}
use Rattle.std.specs.List.{list_any, position_from}
use Rattle.ioc_links.specs.declared.link.Link.{Link}
use Rattle.ioc_links.specs.declared.link.Link.TheVariants.{Device}
use Rattle.ioc_dbcommon.specs.declared.link_field.Lead.{Lead}
use Rattle.ioc_dbcommon.specs.declared.link_field.Lead.TheVariants.{Nowhere, OwnDevice as To-device}
use Rattle.ioc_dbcommon.specs.declared.link_field.LinkField.{LinkField}
use Rattle.ioc_dbcommon.specs.declared.link_field.LinkUse.{LinkUse}
use Rattle.ioc_dbcommon.specs.declared.link_field.LinkUse.TheVariants.{OwnDevice}
use Rattle.ioc_dbcommon.specs.Links.{use_of}
use Rattle.ioc_record.specs.RecordRules.{RecordRules}

-- Whether a link is `@` and this text.
abbrev pub names_device : List ℕ → Link → Bool
names_device text (Device name) = pointwise nat_eq name text
names_device text _ = false

abbrev pub field_names_device : List ℕ → Option LinkField → Bool
field_names_device text None = false
field_names_device text (Some field) = names_device text field.link

-- A device link of record `n` leads to the device that it names if the record owns the device.
abbrev pub device_lead : ℕ → Option ℕ → Lead
device_lead n None = Nowhere
device_lead n (Some owner) = if nat_eq owner n then To-device else Nowhere

abbrev pub is_own : LinkUse → Bool
is_own OwnDevice = true
is_own _ = false

abbrev pub leads_home : Option LinkField → Bool
leads_home None = false
leads_home (Some field) = is_own (use_of field)

module _ {R : Type 0} (k : RecordRules R) where
  -- Whether one of the record's links is `@` and this text.
  abbrev pub asks_for : List ℕ → R → Bool
  asks_for text r = list_any (λ f. field_names_device text (k.link r f)) (k.link_fields r)

  -- The owner of the device with this name: the first of the records with a link to it.
  unfoldable pub owner_of : List R → List ℕ → Option ℕ
  owner_of records text = position_from (asks_for text) 0 records

  -- Whether one of the record's links leads to a device of its own.
  unfoldable pub owns_device : R → Bool
  owns_device r = list_any (λ f. leads_home (k.link r f)) (k.link_fields r)
