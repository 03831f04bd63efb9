-- Channels. Application Developer's Guide, "Runtime Database Access": dbNameToAddr, by which a name
-- without a field stands for VAL.
use Rattle.std.specs.Prelude.{ℕ, List, [], ◌∷◌, Option, Some, None, Result, Ok, Err, slice_get, codes}
use Rattle.ioc_values.specs.declared.error.IocError.{IocError}
use Rattle.ioc_values.specs.declared.error.IocError.TheVariants.{NoRecord, NoField}
use Rattle.ioc_names.specs.NameTable.{NameTable, number_of}
use Rattle.ioc_fields.specs.declared.record_type.RecordType.{RecordType}
use Rattle.ioc_fields.specs.declared.field_no.FieldNo.{FieldNo}
use Rattle.ioc_fields.specs.Names.{field_of}
use Rattle.ioc_dblex.specs.Macros.{front_of, back_of}
use Rattle.ioc_engine.specs.declared.channel.Channel.{Channel}

-- The name of a field: what follows the dot, or VAL without one.
abbrev pub field_name : List ℕ → List ℕ
field_name [] = codes "VAL"
field_name (dot ∷ name) = name

abbrev pub channel_at : ℕ → Option FieldNo → Result Channel IocError
channel_at number None = Err NoField
channel_at number (Some field) = Ok (record { number = number; field = field })

abbrev pub channel_in : ℕ → List ℕ → Option RecordType → Result Channel IocError
channel_in number name None = Err NoRecord
channel_in number name (Some type) = channel_at number (field_of type name)

abbrev pub channel_by : List RecordType → List ℕ → Option ℕ → Result Channel IocError
channel_by types name None = Err NoRecord
channel_by types name (Some number) = channel_in number name (slice_get types number)

-- The channel with this name in a database with these names and types of records. The record is
-- named up to the first dot.
unfoldable pub channel_of : NameTable → List RecordType → List ℕ → Result Channel IocError
channel_of names types text = channel_by types (field_name (back_of 46 text)) (number_of names (front_of 46 text))
