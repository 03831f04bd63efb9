-- Devices of which each record has its own. Application Developer's Guide, "Device Support": each
-- record is bound to the device that its own link names.
use Rattle.std.specs.Prelude.{ℕ, Bool, true, false, nat_eq, List, [], ◌∷◌, ◌≡◌, Option, Some, None, is_some, map, slice_get, if◌then◌else◌}
use Rattle.std.specs.Cmp.Lexicographic.{pointwise}
use Rattle.std.specs.Option.{option_or}
use Rattle.ioc_names.specs.NameTable.{NameTable}
use Rattle.ioc_links.specs.declared.link.Link.{Link}
use Rattle.ioc_links.specs.declared.link.Link.TheVariants.{Device}
use Rattle.ioc_fields.specs.declared.record_type.RecordType.{RecordType}
use Rattle.ioc_fields.specs.declared.field_no.FieldNo.{FieldNo}
use Rattle.ioc_dbcommon.specs.declared.link_field.LinkField.{LinkField}
use Rattle.ioc_record.specs.RecordRules.{RecordRules}
use Rattle.ioc_dbfile.specs.Finished.{Owner, linked_all, by_place}
use Rattle.ioc_dbfile.specs.Owners.{owns_device}
use Rattle.ioc_dbfile.specs.OwnerTable.{owner_in}
use Rattle.ioc_dbfile.specs.declared.own_devices.DeviceOwners.{DeviceOwners}
use Rattle.ioc_dbfile.specs.declared.own_devices.DeviceOwners.TheVariants.{First, Own}

-- The text behind the `@` of a device link.
abbrev pub device_of_link : Link → Option (List ℕ)
device_of_link (Device text) = Some text
device_of_link _ = None

abbrev pub device_of_field : Option LinkField → Option (List ℕ)
device_of_field None = None
device_of_field (Some field) = device_of_link field.link

-- The first of the device names of these fields.
abbrev pub first_device : (FieldNo → Option LinkField) → List FieldNo → Option (List ℕ)
first_device link [] = None
first_device link (field ∷ fields) = option_or (device_of_field (link field)) (first_device link fields)

-- The names of devices of records, by the numbers of the records.
abbrev pub DeviceNames : Type 0
DeviceNames = List (Option (List ℕ))

abbrev pub is_named : List ℕ → Option (Option (List ℕ)) → Bool
is_named text (Some (Some name)) = pointwise nat_eq name text
is_named text _ = false

-- The owner of the device with a name, as record `n` sees it: the record itself if this is the name of
-- its device. So each record can own a device of the same name.
abbrev pub own_owner : DeviceNames → ℕ → Owner
own_owner names n text = if is_named text (slice_get names n) then Some n else None

abbrev pub has_name : Option (Option (List ℕ)) → Bool
has_name (Some (Some name)) = true
has_name _ = false

-- Record `n`, if there is one and it has a device.
abbrev pub holder : DeviceNames → ℕ → Option ℕ
holder names n = if has_name (slice_get names n) then Some n else None

-- The owner of the device with a name, as record `n` sees it, by either rule.
abbrev pub owner_for : DeviceOwners → ℕ → Owner
owner_for (First owners) n = owner_in owners
owner_for (Own own) n = own_owner own.names.items n

module _ {R : Type 0} (k : RecordRules R) where
  -- The name of a record's device: that of the first of its links which is `@` and a name.
  unfoldable pub device_named : R → Option (List ℕ)
  device_named r = first_device (k.link r) (k.link_fields r)

  -- The names of the devices of records.
  abbrev pub device_names : List R → DeviceNames
  device_names records = map device_named records

  -- Record `n` with its links resolved, so that those which name its device lead there.
  unfoldable pub own_linked : NameTable → List RecordType → DeviceNames → ℕ → R → R
  own_linked names types own n r = linked_all k names types (own_owner own n) n (k.link_fields r) r

  -- Records of which each has a device of its own.
  abbrev pub with_own_devices : NameTable → List R → List R
  with_own_devices names records = by_place (own_linked names (map k.record_type records) (device_names records)) 0 records

  -- Holds of a record of which a link leads to a device of its own exactly if one names a device.
  abbrev pub HasOwnDevice : R → Type 0
  HasOwnDevice r = owns_device k r ≡ is_some (device_named r)
