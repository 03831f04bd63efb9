-- Each type has VAL.
use Rattle.std.proofs.Common.{◌≡◌, List, ℕ, [], ◌∷◌, Some, refl, sym}
use Rattle.std.specs.Option.{IsSome}
use Rattle.ioc_fields.specs.declared.field_no.FieldNo.TheVariants.{Own}
use Rattle.ioc_fields.specs.declared.field_no.OwnField.TheVariants.{Val}
use Rattle.ioc_fields.specs.declared.record_type.RecordType.{RecordType}
use Rattle.ioc_fields.specs.declared.record_type.RecordType.TheVariants.{Longin}
use Rattle.ioc_fields.specs.Names.{own_name, field_of, IsFieldNamed}
use Rattle.ioc_fields.specs.Table.{row_of, own_row, numeric_row, numeric_input_row, numeric_output_row, output_row, two_state_row, bi_row, bo_row, multi_state_row, mbbi_row, mbbo_row, text_row, text_input_row, stringout_row, fanout_row, analog_row, scale_row, ai_row, ao_row, input_slot_row, inputs_row, calc_row, calcout_row, sel_row}
use Rattle.ioc_fields.proofs.Fields.{field_of-exact}

has_val : (type : RecordType) → IsSome (row_of type (Own Val))
unfolding row_of own_row numeric_row numeric_input_row numeric_output_row output_row two_state_row bi_row bo_row multi_state_row mbbi_row mbbo_row text_row text_input_row stringout_row fanout_row analog_row scale_row ai_row ao_row input_slot_row inputs_row calc_row calcout_row sel_row
has_val Longin = refl
has_val _ = refl

val_named : (type : RecordType) → field_of type (86 ∷ 65 ∷ 76 ∷ []) ≡ Some (Own Val)
unfolding own_name
val_named type = (field_of-exact type (86 ∷ 65 ∷ 76 ∷ []) (Own Val)).1 (refl, has_val type)

-- So the name VAL finds that field in each type.
pub val_is : (type : RecordType) (name : List ℕ) → name ≡ 86 ∷ 65 ∷ 76 ∷ [] → Some (Own Val) ≡ field_of type name
val_is type name is = rw is (sym (val_named type))

pub val_exact : (type : RecordType) (name : List ℕ) → name ≡ 86 ∷ 65 ∷ 76 ∷ [] → IsFieldNamed type name (Some (Own Val))
val_exact type name is = rw (val_is type name is) (field_of-exact type name)
