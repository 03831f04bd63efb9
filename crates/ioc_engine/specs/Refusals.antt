-- Calls that are refused because of the type of their record. Application Developer's Guide, "Runtime
-- Database Access": dbNameToAddr, dbPutField.
use Rattle.std.specs.Prelude.{◌≡◌, ◌<◌, ℕ, true, IsSome}
use Rattle.ioc_values.specs.declared.error.IocError.{IocError}
use Rattle.ioc_values.specs.declared.error.IocError.TheVariants.{NoField, NoMod}
use Rattle.ioc_fields.specs.declared.record_type.RecordType.{RecordType}
use Rattle.ioc_fields.specs.Table.{row_of, can_put, is_link}
use Rattle.rec_types.specs.Record.{Record, record_rules}
use Rattle.ioc_store.specs.World.{World}
use Rattle.ioc_engine.specs.declared.channel.Channel.{Channel}
use Rattle.ioc_engine.specs.Types.{type_at}

module _ (base : World Record) (c : Channel) where
  -- The type that the channel's record had at the load, which it has ever since.
  abbrev pub type_of : RecordType
  type_of = type_at record_rules base c.number

  -- Holds if the record's type has the field.
  abbrev pub HasField : Type 0
  HasField = IsSome (row_of type_of c.field)

  -- Holds if the record's type has the field, and clients can put it.
  abbrev pub CanBePut : Type 0
  CanBePut = can_put type_of c.field ≡ true

  -- Holds if the record's type has the field, and it is a link field.
  abbrev pub IsLinkField : Type 0
  IsLinkField = is_link type_of c.field ≡ true

  -- The errors of a get that the record's type allows: E2 only if the type has no such field, and
  -- never E3. No other error depends on the type.
  abbrev pub IsGetError : IocError → Type 0
  IsGetError NoField = HasField → ⊥
  IsGetError NoMod = ⊥
  IsGetError _ = Unit {0}

  -- The errors of a put that the record's type allows: E2 only if the type has no such field, and E3
  -- only if it has the field and the field can't be put.
  abbrev pub IsPutError : IocError → Type 0
  IsPutError NoField = HasField → ⊥
  IsPutError NoMod = HasField × (CanBePut → ⊥)
  IsPutError _ = Unit {0}

  -- The errors of a link change that the record's type allows: E2 only if the field is no link field
  -- of the type, and never E3.
  abbrev pub IsLinkError : IocError → Type 0
  IsLinkError NoField = IsLinkField → ⊥
  IsLinkError NoMod = ⊥
  IsLinkError _ = Unit {0}

-- Holds of a channel of an engine with `count` loaded records: there is such a record, and its type
-- has the field.
pub record IsOfEngine (base : World Record) (count : ℕ) (c : Channel) : Type 0 where
  pub record_there : c.number < count
  pub field_there : HasField base c
