-- The line that changes a link of a record. The text is that of a link in a database text, for the
-- kind of the field. Application Developer's Guide, "Database Links"; a put to a link field
-- (dbPutField).
use Rattle.std.specs.Prelude.{ℕ, if◌then◌else◌, List, Option, Some, Result, Ok, Err, ok_or}
use Rattle.ioc_values.specs.declared.error.IocError.{IocError}
use Rattle.ioc_values.specs.declared.error.IocError.TheVariants.{NoField, PutDisabled, BadLink}
use Rattle.ioc_names.specs.NameTable.{NameTable}
use Rattle.ioc_links.specs.declared.link.Link.{Link}
use Rattle.ioc_links.specs.Grammar.{link_of}
use Rattle.ioc_fields.specs.declared.field_no.FieldNo.{FieldNo}
use Rattle.ioc_fields.specs.declared.field_kind.FieldKind.{FieldKind}
use Rattle.ioc_fields.specs.declared.field_kind.FieldKind.TheVariants.{Link as Link-kind}
use Rattle.ioc_fields.specs.Kinds.{link_kind_of}
use Rattle.ioc_fields.specs.Table.{kind_of}
use Rattle.ioc_record.specs.RecordRules.{RecordRules}
use Rattle.ioc_record.specs.Values.{stops_put}
use Rattle.ioc_store.specs.World.{at, common_at}
use Rattle.ioc_sim.specs.Machine.{Machine, MachineReply, linked, refused}
use Rattle.ioc_sim.specs.Leads.{field_of_link}

module _ {R : Type 0} (k : RecordRules R) (names : NameTable) where
  -- The field gets this link, if the text is a valid one.
  abbrev pub linked_to : Machine R → ℕ → FieldNo → Result Link IocError → MachineReply R
  linked_to m n field (Ok link) = linked k m n field (field_of_link k names m.owner m.world n link)
  linked_to m n field (Err e) = refused m e

  -- A link field is changed, unless DISP forbids it.
  abbrev pub linked_in : Machine R → ℕ → FieldNo → List ℕ → Option FieldKind → MachineReply R
  linked_in m n field text (Some (Link-kind role)) =
      if stops_put (common_at k m.world n) field then refused m PutDisabled
      else linked_to m n field (ok_or (link_of (link_kind_of role) text) BadLink)
  linked_in m n field text _ = refused m NoField

  -- The field of a record is changed, if both exist.
  abbrev pub were_linked : Machine R → List ℕ → Result (ℕ × FieldNo) IocError → MachineReply R
  were_linked m text (Ok c) = linked_in m c.0 c.1 text (kind_of (k.record_type (at k m.world c.0)) c.1)
  were_linked m text (Err e) = refused m e
