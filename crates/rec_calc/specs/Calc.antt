-- The type calc. Record Reference Manual, "Calculation Record".
use Rattle.std.specs.Prelude.{ℕ, Bool, [], List, Option, Some, None}
use Rattle.ioc_double.specs.Size.{whole_double}
use Rattle.ioc_values.specs.declared.value.Value.{Value}
use Rattle.ioc_fields.specs.declared.field_no.OwnField.{OwnField}
use Rattle.ioc_fields.specs.declared.field_no.OwnField.TheVariants.{Val, Calc as Calc-field, Letter, LastLetter}
use Rattle.ioc_fields.specs.declared.record_type.RecordType.TheVariants as type
use Rattle.ioc_dbcommon.specs.declared.body.Got.{Got}
use Rattle.ioc_dbcommon.specs.declared.body.Got.TheVariants as got
use Rattle.ioc_dbcommon.specs.declared.body.InputKind.TheVariants as input
use Rattle.ioc_dbcommon.specs.declared.body.Output.TheVariants.{NoOutput}
use Rattle.ioc_dbcommon.specs.declared.body.Want.TheVariants.{ReadInputs}
use Rattle.ioc_dbcommon.specs.declared.link_field.LinkUse.TheVariants.{Unused}
use Rattle.ioc_calc.specs.Programs.{value_by, arguments_by}
use Rattle.ioc_record.specs.BodyRules.{BodyRules, BodyState}
use Rattle.rec_analog.specs.Analog.{new_analog, analog_get, analog_stored, analog_posted, defined_by, tested, settled as analog_settled}
use Rattle.rec_calc.specs.Inputs.{new_inputs, inputs_link, inputs_with_link, inputs_get, inputs_stored, inputs_constant_kind, settled, posted}
use Rattle.rec_calc.specs.declared.calc.Calc.{Calc}

-- ---- Fields

unfoldable pub new_calc : Calc
new_calc = record { analog = new_analog; inputs = new_inputs (whole_double 0); calculation = [] }

abbrev pub calculation_of_field : Calc → OwnField → Option (List ℕ)
calculation_of_field b Calc-field = Some b.calculation
calculation_of_field b _ = None

unfoldable pub with_calculation : Calc → OwnField → List ℕ → Calc
with_calculation b Calc-field c = record b { calculation = c }
with_calculation b _ c = b

unfoldable pub calc_get : Calc → OwnField → Option Value
calc_get b (Letter slot) = inputs_get b.inputs (Letter slot)
calc_get b (LastLetter slot) = inputs_get b.inputs (LastLetter slot)
calc_get b field = analog_get b.analog field

-- The fields with a converted value stored. VAL clears UDF.
unfoldable pub calc_stored : BodyState Calc → OwnField → Value → BodyState Calc
calc_stored h Val v = record { body = record h.body { analog = analog_stored h.body.analog Val v }; condition = record h.condition { undefined = 0 } }
calc_stored h (Letter slot) v = record h { body = record h.body { inputs = inputs_stored h.body.inputs (Letter slot) v } }
calc_stored h field v = record h { body = record h.body { analog = analog_stored h.body.analog field v } }

-- ---- The body

-- All twelve inputs are read.
abbrev pub all_inputs : ℕ
all_inputs = 4095

-- The fields after CALC: VAL takes its value, which says whether VAL is defined, and A to L what it stores.
unfoldable pub calculated : BodyState Calc → BodyState Calc
calculated h =
    let b = h.body in
    let x = value_by b.calculation b.analog.value b.inputs.values in
    record {
      body = record b {
        analog = record b.analog { value = x };
        inputs = record b.inputs { values = arguments_by b.calculation b.analog.value b.inputs.values };
      };
      condition = defined_by x h.condition;
    }

-- The fields after the inputs: CALC is run, but after a fault everything stays the same.
abbrev pub came : BodyState Calc → Got → BodyState Calc
came h got.Fault = h
came h _ = calculated h

-- The fields with the alarms of VAL raised.
abbrev pub alarmed : BodyState Calc → BodyState Calc
alarmed h =
    let t = tested (record { body = h.body.analog; condition = h.condition }) in
    record { body = record h.body { analog = t.body }; condition = t.condition }

unfoldable pub calc_taken : BodyState Calc → Got → BodyState Calc
calc_taken h got = alarmed (came h got)

-- ---- Posts and the load

unfoldable pub calc_posted : Calc → Bool → Calc
calc_posted b alarm_changed = record b { analog = analog_posted b.analog; inputs = posted alarm_changed b.inputs }

unfoldable pub calc_loaded : Calc → Calc
calc_loaded b = record b { analog = analog_settled b.analog; inputs = settled b.inputs }

-- ---- All of it

abbrev pub calc : BodyRules Calc
calc = record {
  missing = new_calc;
  record_type = λ b. type.Calc;
  link = λ b. inputs_link b.inputs.links;
  with_link = λ b field link. record b { inputs = inputs_with_link b.inputs field link };
  calculation = calculation_of_field;
  with_calculation = with_calculation;
  states = λ b. [];
  get = calc_get;
  stored = calc_stored;
  begin = λ b. ReadInputs Unused;
  inputs = λ b got. all_inputs;
  input_kind = λ h. input.Double;
  taken = calc_taken;
  output = λ h got. NoOutput;
  posted = calc_posted;
  constant_kind = λ h. inputs_constant_kind;
  loaded = λ h. record h { body = calc_loaded h.body };
}
