-- The type calcout. Record Reference Manual, "Calculation Output Record".
use Rattle.std.specs.Prelude.{ℕ, Bool, true, not, ◌&&◌, if◌then◌else◌, [], List, Option, Some, None, unwrap_or}
use Rattle.std.specs.Float.{float_with_sign}
use Rattle.std.specs.Prelude.{false}
use Rattle.std.specs.Float.Ieee.{Float, binary64, sub, le, eq}
use Rattle.ioc_double.specs.Size.{whole_double}
use Rattle.ioc_values.specs.declared.value.Value.{Value}
use Rattle.ioc_values.specs.declared.value.Value.TheVariants as value
use Rattle.ioc_menus.specs.declared.oopt.Oopt.{Oopt as OoptChoice}
use Rattle.ioc_menus.specs.declared.oopt.Oopt.TheVariants.{EveryTime, OnChange, WhenZero, WhenNonZero, TransitionToZero, TransitionToNonZero}
use Rattle.ioc_menus.specs.declared.dopt.Dopt.{Dopt as DoptChoice}
use Rattle.ioc_menus.specs.declared.dopt.Dopt.TheVariants.{UseCalc, UseOcal}
use Rattle.ioc_menus.specs.declared.ivoa.Ivoa.TheVariants.{ContinueNormally}
use Rattle.ioc_menus.specs.Numbers.{oopt_number, dopt_number, ivoa_number}
use Rattle.ioc_fields.specs.declared.field_no.OwnField.{OwnField}
use Rattle.ioc_fields.specs.declared.field_no.OwnField.TheVariants.{Out, Calc as Calc-field, Ocal, Oopt, Dopt, Oval, Pval, Ivoa, Ivov}
use Rattle.ioc_fields.specs.declared.record_type.RecordType.TheVariants as type
use Rattle.ioc_dbcommon.specs.declared.body.Got.{Got}
use Rattle.ioc_dbcommon.specs.declared.body.InputKind.TheVariants as input
use Rattle.ioc_dbcommon.specs.declared.body.Output.{Output}
use Rattle.ioc_dbcommon.specs.declared.body.Output.TheVariants.{NoOutput}
use Rattle.ioc_dbcommon.specs.declared.body.Want.TheVariants.{ReadInputs}
use Rattle.ioc_dbcommon.specs.declared.link_field.LinkField.{LinkField}
use Rattle.ioc_dbcommon.specs.declared.link_field.LinkUse.TheVariants.{Unused}
use Rattle.ioc_calc.specs.Programs.{value_by, arguments_by}
use Rattle.ioc_dbcommon.specs.Condition.{undefined_tested}
use Rattle.ioc_dbcommon.specs.Drive.{sets, drives, written}
use Rattle.ioc_dbcommon.specs.Links.{no_link}
use Rattle.ioc_dbcommon.specs.Parts.{double_in, oopt_in, dopt_in, ivoa_in}
use Rattle.ioc_record.specs.BodyRules.{BodyRules, BodyState}
use Rattle.rec_analog.specs.Analog.{defined_by}
use Rattle.rec_calc.specs.Inputs.{inputs_link, inputs_with_link, inputs_constant_kind}
use Rattle.rec_calc.specs.Calc.{new_calc, all_inputs, calc_get, calc_stored, calc_taken, calc_posted, calc_loaded}
use Rattle.rec_calc.specs.declared.calc.Calc.{Calc}
use Rattle.rec_calc.specs.declared.calcout.Calcout.{Calcout}

-- ---- Fields

unfoldable pub new_calcout : Calcout
new_calcout = record {
  calc = new_calc;
  output = no_link;
  option = EveryTime;
  output_data = UseCalc;
  output_calculation = [];
  output_value = whole_double 0;
  previous = whole_double 0;
  on_invalid = ContinueNormally;
  invalid_value = whole_double 0;
}

abbrev pub calcout_link : LinkField → List LinkField → OwnField → Option LinkField
calcout_link out links Out = Some out
calcout_link out links field = inputs_link links field

unfoldable pub calcout_with_link : Calcout → OwnField → LinkField → Calcout
calcout_with_link b Out link = record b { output = link }
calcout_with_link b field link = record b { calc = record b.calc { inputs = inputs_with_link b.calc.inputs field link } }

abbrev pub calculation_of_field : Calcout → OwnField → Option (List ℕ)
calculation_of_field b Calc-field = Some b.calc.calculation
calculation_of_field b Ocal = Some b.output_calculation
calculation_of_field b _ = None

unfoldable pub with_calculation : Calcout → OwnField → List ℕ → Calcout
with_calculation b Calc-field c = record b { calc = record b.calc { calculation = c } }
with_calculation b Ocal c = record b { output_calculation = c }
with_calculation b _ c = b

unfoldable pub calcout_get : Calcout → OwnField → Option Value
calcout_get b Oopt = Some (value.Enum (oopt_number b.option))
calcout_get b Dopt = Some (value.Enum (dopt_number b.output_data))
calcout_get b Oval = Some (value.Double b.output_value)
calcout_get b Pval = Some (value.Double b.previous)
calcout_get b Ivoa = Some (value.Enum (ivoa_number b.on_invalid))
calcout_get b Ivov = Some (value.Double b.invalid_value)
calcout_get b field = calc_get b.calc field

-- The state of the fields that a calc has.
abbrev pub of_calc : BodyState Calcout → BodyState Calc
of_calc h = record { body = h.body.calc; condition = h.condition }

abbrev pub with_calc : BodyState Calcout → BodyState Calc → BodyState Calcout
with_calc h c = record { body = record h.body { calc = c.body }; condition = c.condition }

-- The fields with a converted value stored.
unfoldable pub calcout_stored : BodyState Calcout → OwnField → Value → BodyState Calcout
calcout_stored h Oopt v = record h { body = record h.body { option = unwrap_or (oopt_in v) h.body.option } }
calcout_stored h Dopt v = record h { body = record h.body { output_data = unwrap_or (dopt_in v) h.body.output_data } }
calcout_stored h Ivoa v = record h { body = record h.body { on_invalid = unwrap_or (ivoa_in v) h.body.on_invalid } }
calcout_stored h Ivov v = record h { body = record h.body { invalid_value = unwrap_or (double_in v) h.body.invalid_value } }
calcout_stored h field v = with_calc h (calc_stored (of_calc h) field v)

-- ---- When there is an output

-- Whether a value has moved by more than a deadband; it has where a number is NaN.
unfoldable pub has_changed : Float → Float → Float → Bool
has_changed old new band = not (le (float_with_sign false (sub binary64 old new)) band)

unfoldable pub is_zero : Float → Bool
is_zero x = eq x (whole_double 0)

-- Whether OOPT says that there is an output, where VAL was this before, and is this now.
abbrev pub due_by : OoptChoice → Float → Float → Float → Bool
due_by EveryTime band old new = true
due_by OnChange band old new = has_changed old new band
due_by WhenZero band old new = is_zero new
due_by WhenNonZero band old new = not (is_zero new)
due_by TransitionToZero band old new = not (is_zero old) && is_zero new
due_by TransitionToNonZero band old new = is_zero old && not (is_zero new)

unfoldable pub is_due : Calcout → Bool
is_due b = due_by b.option b.calc.analog.monitor_deadband b.previous b.calc.analog.value

-- ---- The body

-- The fields after the work of a calc, and whether there is an output, which is asked before PVAL becomes VAL.
unfoldable pub worked : BodyState Calcout → Got → BodyState Calcout × Bool
worked h got =
    let c = with_calc h (calc_taken (of_calc h) got) in
    (record c { body = record c.body { previous = c.body.calc.analog.value } }, is_due c.body)

-- The fields after OCAL, for which OVAL stands in the place of VAL: OVAL takes its value, which says whether the record is
-- defined, and A to L what it stores.
unfoldable pub output_run : BodyState Calcout → BodyState Calcout
output_run h =
    let b = h.body in
    let x = value_by b.output_calculation b.output_value b.calc.inputs.values in
    record {
      body = record b {
        output_value = x;
        calc = record b.calc { inputs = record b.calc.inputs { values = arguments_by b.output_calculation b.output_value b.calc.inputs.values } };
      };
      condition = defined_by x h.condition;
    }

-- The fields with the value of the output made, by DOPT: VAL, or the value of OCAL.
abbrev pub made_by : DoptChoice → BodyState Calcout → BodyState Calcout
made_by UseCalc h = record h { body = record h.body { output_value = h.body.calc.analog.value } }
made_by UseOcal h = output_run h

-- After that the alarm of an undefined value is raised.
unfoldable pub output_made : BodyState Calcout → BodyState Calcout
output_made h = let m = made_by h.body.output_data h in record m { condition = undefined_tested m.condition }

-- The fields with OVAL set to IVOV, if IVOA says so.
unfoldable pub invalid_set : BodyState Calcout → BodyState Calcout
invalid_set h = if sets h.body.on_invalid h.condition then record h { body = record h.body { output_value = h.body.invalid_value } } else h

abbrev pub put_out_if : BodyState Calcout × Bool → BodyState Calcout
put_out_if w = if w.1 then invalid_set (output_made w.0) else w.0

unfoldable pub calcout_taken : BodyState Calcout → Got → BodyState Calcout
calcout_taken h got = put_out_if (worked h got)

-- The output of OVAL, unless IVOA says that nothing is driven.
abbrev pub driven_out : BodyState Calcout → Output
driven_out h = if drives h.body.on_invalid h.condition then written h.body.output (value.Double h.body.output_value) else NoOutput

unfoldable pub calcout_output : BodyState Calcout → Got → Output
calcout_output h got = let w = worked h got in if w.1 then driven_out (invalid_set (output_made w.0)) else NoOutput

-- ---- The load

-- The fields after the end of a load: those of a calc, and PVAL becomes VAL.
abbrev pub calcout_loaded : Calcout → Calcout
calcout_loaded b = let c = calc_loaded b.calc in record b { calc = c; previous = c.analog.value }

-- ---- All of it

abbrev pub calcout : BodyRules Calcout
calcout = record {
  missing = new_calcout;
  record_type = λ b. type.Calcout;
  link = λ b. calcout_link b.output b.calc.inputs.links;
  with_link = calcout_with_link;
  calculation = calculation_of_field;
  with_calculation = with_calculation;
  states = λ b. [];
  get = calcout_get;
  stored = calcout_stored;
  begin = λ b. ReadInputs Unused;
  inputs = λ b got. all_inputs;
  input_kind = λ h. input.Double;
  taken = calcout_taken;
  output = calcout_output;
  posted = λ b alarm_changed. record b { calc = calc_posted b.calc alarm_changed };
  constant_kind = λ h. inputs_constant_kind;
  loaded = λ h. record h { body = calcout_loaded h.body };
}
