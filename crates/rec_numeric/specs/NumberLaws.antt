-- The laws of the numbers in numeric records: the field tables have both types, each with its
-- numbers.
use Rattle.std.proofs.Common.{◌≡◌, false, Some, refl}
use Rattle.ioc_values.specs.declared.value.Value.{Value}
use Rattle.ioc_values.specs.Shapes.{IsInRange}
use Rattle.ioc_fields.specs.declared.field_kind.FieldKind.TheVariants.{Number}
use Rattle.ioc_fields.specs.declared.field_no.OwnField.{OwnField}
use Rattle.ioc_fields.specs.Table.{row_of, own_row, numeric_input_row, numeric_output_row}
use Rattle.ioc_fields.specs.Types.{reads_device}
use Rattle.ioc_fields.specs.Defaults.{zero_of, own_default}
use Rattle.ioc_record.specs.ByRow.{default_by}
use Rattle.rec_numeric.specs.Number.{NumberRules, long_number, int64_number}

pub record IsLawfulNumber {N : Type 0} (k : NumberRules N) : Type 0 where
  -- A value in the range is the value of a number, and reads back as this number.
  pub of_range : (v : Value) → IsInRange k.range v → (n : N) × (v ≡ k.value n)
  pub back : (n : N) → k.in_value (k.value n) ≡ Some n
  pub zero_is : zero_of (Number k.range) ≡ Some (k.value k.zero)
  -- The rows of both types in the field tables.
  pub input_row : (f : OwnField) → own_row k.input_type f ≡ numeric_input_row k.range f
  pub output_row : (f : OwnField) → own_row k.output_type f ≡ numeric_output_row k.range f
  pub input_default : (f : OwnField) → own_default k.input_type f ≡ default_by (numeric_input_row k.range f)
  pub output_default : (f : OwnField) → own_default k.output_type f ≡ default_by (numeric_output_row k.range f)
  pub writes : reads_device k.output_type ≡ false

pub long_lawful : IsLawfulNumber long_number
unfolding zero_of own_row row_of own_default reads_device
long_lawful = record { of_range = λ v is. is; back = λ n. refl; zero_is = refl; input_row = λ f. refl; output_row = λ f. refl; input_default = λ f. refl; output_default = λ f. refl; writes = refl }

pub int64_lawful : IsLawfulNumber int64_number
unfolding zero_of own_row row_of own_default reads_device
int64_lawful = record { of_range = λ v is. is; back = λ n. refl; zero_is = refl; input_row = λ f. refl; output_row = λ f. refl; input_default = λ f. refl; output_default = λ f. refl; writes = refl }
