-- The use of links. Application Developer's Guide, "Database Links".
use Rattle.std.specs.Prelude.{ℕ, List, [], ◌∷◌, ◌++◌, Option, Some, None}
use Rattle.ioc_links.specs.declared.link.Link.{Link}
use Rattle.ioc_links.specs.declared.link.Link.TheVariants.{Empty, Constant, Real, Device, Database}
use Rattle.ioc_links.specs.declared.link.Flags.{Flags}
use Rattle.ioc_fields.specs.declared.field_no.FieldNo.{FieldNo}
use Rattle.ioc_dbcommon.specs.declared.link_field.LinkField.{LinkField}
use Rattle.ioc_dbcommon.specs.declared.link_field.Lead.{Lead}
use Rattle.ioc_dbcommon.specs.declared.link_field.Lead.TheVariants.{Nowhere, Field, OwnDevice as To-device}
use Rattle.ioc_dbcommon.specs.declared.link_field.LinkUse.{LinkUse}
use Rattle.ioc_dbcommon.specs.declared.link_field.LinkUse.TheVariants.{Unused, OwnDevice, Absent, Standing as Standing-link}

-- An empty link.
abbrev pub no_link : LinkField
no_link = record { link = Empty; lead = Nowhere }

-- A database link is absent if it leads to no field.
abbrev pub database_use : Flags → Lead → LinkUse
database_use flags Nowhere = Absent
database_use flags To-device = Absent
database_use flags (Field to) = Standing-link (record { number = to.number; field = to.field; process_passive = flags.process_passive; mode = flags.mode })

-- A device link is absent if it doesn't lead to the record's own device.
abbrev pub device_use : Lead → LinkUse
device_use To-device = OwnDevice
device_use _ = Absent

-- The use of a link that leads there.
abbrev pub use_as : Link → Lead → LinkUse
use_as Empty lead = Unused
use_as (Constant n) lead = Unused
use_as (Real text) lead = Unused
use_as (Device text) lead = device_use lead
use_as (Database target flags) lead = database_use flags lead

-- The use of a link field. An empty link and a constant are unused, a database link that leads
-- nowhere is absent, and so is a device link unless it leads to the record's own device.
unfoldable pub use_of : LinkField → LinkUse
use_of field = use_as field.link field.lead

-- The text of a device link, or an empty one for any other link.
abbrev pub device_text : Link → List ℕ
device_text (Device text) = text
device_text _ = []

-- The records that a link in use names.
abbrev pub named_by : LinkUse → List ℕ
named_by (Standing-link target) = target.number ∷ []
named_by Unused = []
named_by OwnDevice = []
named_by Absent = []

-- The record that a link in use names, if any.
abbrev pub record_named : LinkUse → Option ℕ
record_named (Standing-link target) = Some target.number
record_named Unused = None
record_named OwnDevice = None
record_named Absent = None

-- The records that a link field names.
abbrev pub named_by_field : Option LinkField → List ℕ
named_by_field None = []
named_by_field (Some field) = named_by (use_of field)

-- The records that these link fields name.
abbrev pub named_by_all : (FieldNo → Option LinkField) → List FieldNo → List ℕ
named_by_all link [] = []
named_by_all link (f ∷ fs) = named_by_field (link f) ++ named_by_all link fs
