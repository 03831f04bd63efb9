-- Where a link leads that is changed at run time: as at the end of a load, except that each device
-- still belongs to its owner of that time. Application Developer's Guide, "Database Links" and
-- "Device Support".
use Rattle.std.specs.Prelude.{ℕ, if◌then◌else◌, List, Option, Some, None}
use Rattle.std.specs.FinMap.{contains_key}
use Rattle.ioc_names.specs.NameTable.{NameTable, number_of}
use Rattle.ioc_links.specs.declared.link.Link.{Link}
use Rattle.ioc_links.specs.declared.link.Link.TheVariants.{Device, Database}
use Rattle.ioc_dbcommon.specs.declared.link_field.LinkField.{LinkField}
use Rattle.ioc_dbcommon.specs.declared.link_field.FieldAddress.{FieldAddress}
use Rattle.ioc_dbcommon.specs.declared.link_field.Lead.{Lead}
use Rattle.ioc_dbcommon.specs.declared.link_field.Lead.TheVariants.{Nowhere}
use Rattle.ioc_record.specs.RecordRules.{RecordRules}
use Rattle.ioc_store.specs.World.{World, at}
use Rattle.ioc_dbfile.specs.Finished.{Owner, target_in, lead_of}
use Rattle.ioc_dbfile.specs.Owners.{device_lead}

module _ {R : Type 0} (k : RecordRules R) where
  -- The field with this name in the record with this number, if a link can lead to it.
  abbrev pub target_among : World R → List ℕ → Option ℕ → Option FieldAddress
  target_among w name None = None
  target_among w name (Some n) = if contains_key w.records n then target_in n name (Some (k.record_type (at k w n))) else None

  -- Where a link of record `n` leads.
  abbrev pub leads_among : NameTable → Owner → World R → ℕ → Link → Lead
  leads_among names owner w n (Database target flags) = lead_of (target_among w target.field (number_of names target.record_name))
  leads_among names owner w n (Device text) = device_lead n (owner text)
  leads_among names owner w n _ = Nowhere

  -- The value of a link field with this link.
  abbrev pub field_of_link : NameTable → Owner → World R → ℕ → Link → LinkField
  field_of_link names owner w n link = record { link = link; lead = leads_among names owner w n link }
