-- The laws of the states: what is put reads back, and the field tables have both types with these
-- states.
use Rattle.std.proofs.Common.{◌≡◌, ℕ, List, Some, None, false}
use Rattle.ioc_values.specs.declared.value.Value.{Value}
use Rattle.ioc_fields.specs.declared.field_no.OwnField.{OwnField}
use Rattle.ioc_fields.specs.declared.field_no.OwnField.TheVariants.{Inp, Out, Dol}
use Rattle.ioc_fields.specs.Table.{own_row}
use Rattle.ioc_fields.specs.Types.{reads_device}
use Rattle.ioc_fields.specs.Defaults.{own_default}
use Rattle.ioc_record.specs.ByRow.{can_put_by, default_by, is_link_by}
use Rattle.rec_state.specs.StateRows.{state_input_row, state_output_row, IsValueBy}
use Rattle.rec_state.specs.States.{StateRules}

-- The laws of a field. It has its default in a new record, and the states have no link in it. The
-- field tables have the rows and defaults of both types with these states.
pub record IsLawfulField {S : Type 0} (k : StateRules S) (f : OwnField) : Type 0 where
  pub default : k.get k.new f ≡ default_by (k.row f)
  pub no_link : is_link_by (k.row f) ≡ false
  pub input_row : own_row k.input_type f ≡ state_input_row k.row f
  pub output_row : own_row k.output_type f ≡ state_output_row k.row f
  pub input_default : own_default k.input_type f ≡ default_by (state_input_row k.row f)
  pub output_default : own_default k.output_type f ≡ default_by (state_output_row k.row f)

pub record IsLawfulStates {S : Type 0} (k : StateRules S) : Type 0 where
  -- A value that is put reads back.
  pub reads_back : (s : S) (texts : List (List ℕ)) (f : OwnField) (v : Value) → can_put_by (k.row f)
      → IsValueBy texts (k.row f) v → k.get (k.stored s f v) f ≡ Some v
  pub fields : (f : OwnField) → IsLawfulField k f
  -- There are no values in the link fields of both types.
  pub no_input : k.get k.new Inp ≡ None
  pub no_output : k.get k.new Out ≡ None
  pub no_desired : k.get k.new Dol ≡ None
  pub writes : reads_device k.output_type ≡ false
