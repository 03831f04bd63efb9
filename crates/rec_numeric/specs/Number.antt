-- The numbers of numeric records. Record Reference Manual, "Long Input Record", "64bit Integer
-- Input Record".
use Rattle.std.specs.Prelude.{ℤ, pos, Option}
use Rattle.ioc_values.specs.declared.kind.Range.{Range}
use Rattle.ioc_values.specs.declared.kind.Range.TheVariants as range
use Rattle.ioc_values.specs.declared.value.Value.{Value}
use Rattle.ioc_values.specs.declared.value.Value.TheVariants as value
use Rattle.ioc_fields.specs.declared.record_type.RecordType.{RecordType}
use Rattle.ioc_fields.specs.declared.record_type.RecordType.TheVariants as type
use Rattle.ioc_dbcommon.specs.Parts.{long_in, int64_in}

-- A kind of number: its range and its values, the record type that reads such numbers, and the one
-- that writes them.
pub record NumberRules (N : Type 0) : Type 0 where
  pub zero : N
  pub in_value : Value → Option N
  pub value : N → Value
  pub range : Range
  pub input_type : RecordType
  pub output_type : RecordType

-- Numbers of 32 bits.
abbrev pub long_number : NumberRules ℤ
long_number = record { zero = pos 0; in_value = long_in; value = value.Long; range = range.Long; input_type = type.Longin; output_type = type.Longout }

-- Numbers of 64 bits.
abbrev pub int64_number : NumberRules ℤ
int64_number = record { zero = pos 0; in_value = int64_in; value = value.Int64; range = range.Int64; input_type = type.Int64in; output_type = type.Int64out }
