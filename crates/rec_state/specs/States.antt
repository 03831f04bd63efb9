-- What tells bi and bo from mbbi and mbbo: the states, two or sixteen, and how VAL and RVAL follow
-- each other. Record Reference Manual, "Binary Input Record", "Binary Output Record", "Multi-Bit
-- Binary Input Record" and "Multi-Bit Binary Output Record".
use Rattle.std.specs.Prelude.{ℕ, ℤ, Bool, List, Option}
use Rattle.ioc_values.specs.declared.value.Value.{Value}
use Rattle.ioc_menus.specs.declared.severity.Severity.{Severity}
use Rattle.ioc_fields.specs.declared.field_no.OwnField.{OwnField}
use Rattle.ioc_fields.specs.declared.record_type.RecordType.{RecordType}
use Rattle.ioc_fields.specs.declared.row.Row.{Row}
use Rattle.ioc_dbcommon.specs.declared.body.Got.{Got}

pub record StateRules (S : Type 0) : Type 0 where
  -- The states of a new record, their fields and rows, and their texts.
  pub new : S
  pub get : S → OwnField → Option Value
  pub stored : S → OwnField → Value → S
  pub row : OwnField → Option Row
  pub texts : S → List (List ℕ)
  -- The severity of a VAL, and whether an input with this VAL has the alarms of states.
  pub severity : S → ℕ → Severity
  pub has_alarms : ℕ → Bool
  -- The bits of a raw input that MASK leaves, and the VAL for an RVAL.
  pub masked : ℕ → ℕ → ℕ
  pub state_of : S → ℕ → ℕ
  -- The RVAL for MASK and a VAL, none if RVAL stays the same. Whether an output sets RVAL after its
  -- input, by UDF; and the bits of RVAL, by MASK, that it drives.
  pub raw_of : S → ℕ → ℕ → Option ℕ
  pub converts : Got → ℕ → Bool
  pub driven : ℕ → ℕ → ℕ
  -- MASK after a load, and the VAL for a constant DOL, none if VAL stays the same.
  pub loaded_mask : S → ℕ → ℕ
  pub constant : ℤ → Option ℕ
  -- The type that reads such states, and the one that writes them.
  pub input_type : RecordType
  pub output_type : RecordType
