-- Link changes by text. Application Developer's Guide, "Database Links", and a put to a link field
-- (dbPutField).
use Rattle.std.specs.Prelude.{ℕ, ◌≡◌, ◌⊎◌, List, Option, Some, None, IsSome, slice_get}
use Rattle.std.specs.Option.{option_and_then}
use Rattle.ioc_values.specs.declared.error.IocError.{IocError}
use Rattle.ioc_values.specs.declared.error.IocError.TheVariants.{NoField, NoRecord, BadLink}
use Rattle.ioc_names.specs.NameTable.{NameTable}
use Rattle.ioc_links.specs.declared.link.Link.{Link}
use Rattle.ioc_links.specs.declared.link.LinkKind.{LinkKind}
use Rattle.ioc_links.specs.Grammar.{link_of}
use Rattle.ioc_fields.specs.declared.record_type.RecordType.{RecordType}
use Rattle.ioc_fields.specs.declared.field_kind.FieldKind.{FieldKind}
use Rattle.ioc_fields.specs.declared.field_kind.FieldKind.TheVariants.{Link as Link-kind}
use Rattle.ioc_fields.specs.Kinds.{link_kind_of}
use Rattle.ioc_fields.specs.Table.{kind_of}
use Rattle.ioc_dbcommon.specs.declared.link_field.LinkField.{LinkField}
use Rattle.ioc_dbfile.specs.Finished.{Owner, leads_to}
use Rattle.ioc_engine.specs.declared.channel.Channel.{Channel}

-- The kind of links that a field can hold, if it is a link field.
abbrev pub link_kind_in : Option FieldKind → Option LinkKind
link_kind_in (Some (Link-kind role)) = Some (link_kind_of role)
link_kind_in _ = None

-- The kind of links that the field of a channel can hold, if the record has such a link field.
abbrev pub kind_at : List RecordType → Channel → Option LinkKind
kind_at types c = option_and_then (λ type. link_kind_in (kind_of type c.field)) (slice_get types c.number)

-- Holds if the text spells this link in the field of the channel.
pub record IsTextOf (types : List RecordType) (c : Channel) (text : List ℕ) (link : Link) : Type 0 where
  pub kind : LinkKind
  pub field : kind_at types c ≡ Some kind
  pub spelled : link_of kind text ≡ Some link

-- Holds of the error of a text that spells no link in the field of the channel: there is no such
-- record, the field is no link, or the text isn't one that the field can hold.
abbrev pub IsBadText : List RecordType → Channel → List ℕ → IocError → Type 0
IsBadText types c text error =
    ((error ≡ NoRecord) × (slice_get types c.number ≡ None)) ⊎ (((error ≡ NoField) × IsSome (slice_get types c.number) × (kind_at types c ≡ None)) ⊎ ((error ≡ BadLink) × (kind : LinkKind) × (kind_at types c ≡ Some kind) × (link_of kind text ≡ None)))

-- The value of a link field with this link, which leads where the names, types and owners of the
-- load say.
abbrev pub field_of_link : NameTable → List RecordType → Owner → ℕ → Link → LinkField
field_of_link names types owner number link = record { link = link; lead = leads_to names types owner number link }
