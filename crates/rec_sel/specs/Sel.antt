-- The type sel. Record Reference Manual, "Select Record".
use Rattle.std.specs.Prelude.{ℕ, ◌^◌, Bool, nat_lt, true, false, if◌then◌else◌, [], List, Option, Some, None, unwrap_or, slice_get}
use Rattle.std.specs.Option.{option_and_then}
use Rattle.std.specs.Float.Ieee.{Float, nan, inf}
use Rattle.ioc_values.specs.declared.value.Value.{Value}
use Rattle.ioc_values.specs.declared.value.Value.TheVariants as value
use Rattle.ioc_values.specs.declared.kind.Range.TheVariants as range
use Rattle.ioc_values.specs.Conversion.{Numbers}
use Rattle.ioc_links.specs.declared.link.Link.{Link}
use Rattle.ioc_menus.specs.declared.selmode.Selmode.{Selmode}
use Rattle.ioc_menus.specs.declared.selmode.Selmode.TheVariants.{Specified, HighSignal, LowSignal, MedianSignal}
use Rattle.ioc_menus.specs.declared.severity.Severity.TheVariants.{Invalid}
use Rattle.ioc_menus.specs.declared.status.Status.TheVariants.{Soft}
use Rattle.ioc_menus.specs.Numbers.{selmode_number}
use Rattle.ioc_fields.specs.declared.field_no.OwnField.{OwnField}
use Rattle.ioc_fields.specs.declared.field_no.OwnField.TheVariants.{Val, Selm, Seln, Nvl, Letter, LastLetter}
use Rattle.ioc_fields.specs.declared.record_type.RecordType.TheVariants as type
use Rattle.ioc_dbcommon.specs.declared.body.Got.{Got}
use Rattle.ioc_dbcommon.specs.declared.body.Got.TheVariants as got
use Rattle.ioc_dbcommon.specs.declared.body.InputKind.{InputKind}
use Rattle.ioc_dbcommon.specs.declared.body.InputKind.TheVariants as input
use Rattle.ioc_dbcommon.specs.declared.body.Output.TheVariants.{NoOutput}
use Rattle.ioc_dbcommon.specs.declared.body.Want.{Want}
use Rattle.ioc_dbcommon.specs.declared.body.Want.TheVariants.{ReadInputs}
use Rattle.ioc_dbcommon.specs.declared.link_field.LinkField.{LinkField}
use Rattle.ioc_dbcommon.specs.declared.link_field.LinkUse.TheVariants.{Unused}
use Rattle.ioc_dbcommon.specs.Condition.{raised}
use Rattle.ioc_dbcommon.specs.Constant.{constant_in}
use Rattle.ioc_dbcommon.specs.Links.{no_link, use_of}
use Rattle.ioc_dbcommon.specs.Parts.{selmode_in, ushort_in}
use Rattle.ioc_record.specs.BodyRules.{BodyRules, BodyState}
use Rattle.rec_analog.specs.Analog.{new_analog, analog_get, analog_stored, analog_posted, defined_by, tested, settled as analog_settled}
use Rattle.rec_calc.specs.Inputs.{new_inputs, inputs_link, inputs_with_link, inputs_get, inputs_stored, inputs_constant_kind, settled, posted}
use Rattle.rec_calc.specs.Calc.{all_inputs}
use Rattle.rec_sel.specs.Choosing.{value_of, first_highest, first_lowest, numbers_among, median_number}
use Rattle.rec_sel.specs.declared.sel.Sel.{Sel}

-- ---- Fields

unfoldable pub new_sel : Sel
new_sel = record { analog = new_analog; inputs = new_inputs nan; mode = Specified; number = 0; number_input = no_link }

abbrev pub sel_link : LinkField → List LinkField → OwnField → Option LinkField
sel_link nvl links Nvl = Some nvl
sel_link nvl links field = inputs_link links field

unfoldable pub sel_with_link : Sel → OwnField → LinkField → Sel
sel_with_link b Nvl link = record b { number_input = link }
sel_with_link b field link = record b { inputs = inputs_with_link b.inputs field link }

unfoldable pub sel_get : Sel → OwnField → Option Value
sel_get b Selm = Some (value.Enum (selmode_number b.mode))
sel_get b Seln = Some (value.UShort b.number)
sel_get b (Letter slot) = inputs_get b.inputs (Letter slot)
sel_get b (LastLetter slot) = inputs_get b.inputs (LastLetter slot)
sel_get b field = analog_get b.analog field

-- The fields with a converted value stored. VAL is never put.
unfoldable pub sel_stored : BodyState Sel → OwnField → Value → BodyState Sel
sel_stored h Val v = h
sel_stored h Selm v = record h { body = record h.body { mode = unwrap_or (selmode_in v) h.body.mode } }
sel_stored h Seln v = record h { body = record h.body { number = unwrap_or (ushort_in v) h.body.number } }
sel_stored h (Letter slot) v = record h { body = record h.body { inputs = inputs_stored h.body.inputs (Letter slot) v } }
sel_stored h field v = record h { body = record h.body { analog = analog_stored h.body.analog field v } }

-- ---- The inputs

-- The link that chooses the inputs: NVL, where SELM is Specified.
abbrev pub chosen_by : Selmode → LinkField → Want
chosen_by Specified nvl = ReadInputs (use_of nvl)
chosen_by _ nvl = ReadInputs Unused

unfoldable pub sel_begin : Sel → Want
sel_begin b = chosen_by b.mode b.number_input

-- The input of number SELN; none after a fault of NVL, and none above 11.
abbrev pub one_input : ℕ → Got → ℕ
one_input number got.Fault = 0
one_input number _ = if nat_lt number 12 then 2 ^ number else 0

abbrev pub inputs_by : Selmode → ℕ → Got → ℕ
inputs_by Specified number got = one_input number got
inputs_by _ number got = all_inputs

unfoldable pub sel_inputs : Sel → Got → ℕ
sel_inputs b got = inputs_by b.mode b.number got

-- ---- What is selected

-- The value of number SELN; none above 11.
unfoldable pub specified : Sel → Option Float
specified b = slice_get b.inputs.values b.number

-- The fields with SELN the number that was found, and its value; without one SELN stays, and the value is this one.
abbrev pub selected : Sel → Option ℕ → Float → Sel × Float
selected b None x = (b, x)
selected b (Some n) x = (record b { number = n }, value_of b.inputs.values n)

-- The first of the highest values, and the first of the lowest.
unfoldable pub highest : Sel → Sel × Float
highest b = selected b (first_highest b.inputs.values) (inf true)

unfoldable pub lowest : Sel → Sel × Float
lowest b = selected b (first_lowest b.inputs.values) (inf false)

-- The fields with SELN how many values aren't NaN, and the value in their middle; NaN without any.
abbrev pub median_of : List Float → Option ℕ → Float
median_of values None = nan
median_of values (Some n) = value_of values n

unfoldable pub median : Sel → Sel × Float
median b = (record b { number = numbers_among b.inputs.values }, median_of b.inputs.values (median_number b.inputs.values))

-- ---- The body

-- The fields after a value was selected: it goes into VAL, and says whether VAL is defined.
unfoldable pub value_taken : BodyState Sel → Float → BodyState Sel
value_taken h x = record { body = record h.body { analog = record h.body.analog { value = x } }; condition = defined_by x h.condition }

abbrev pub taken_of : BodyState Sel → Sel × Float → BodyState Sel
taken_of h found = value_taken (record h { body = found.0 }) found.1

-- Without a value of number SELN, VAL and UDF stay, and SOFT is raised with INVALID.
abbrev pub specified_taken : BodyState Sel → Option Float → BodyState Sel
specified_taken h None = record h { condition = raised Soft Invalid h.condition }
specified_taken h (Some x) = value_taken h x

-- The fields after a value was selected by SELM.
abbrev pub came_by : Selmode → BodyState Sel → BodyState Sel
came_by Specified h = specified_taken h (specified h.body)
came_by HighSignal h = taken_of h (highest h.body)
came_by LowSignal h = taken_of h (lowest h.body)
came_by MedianSignal h = taken_of h (median h.body)

unfoldable pub came : BodyState Sel → BodyState Sel
came h = came_by h.body.mode h

-- After a fault nothing is selected.
abbrev pub came_if : BodyState Sel → Got → BodyState Sel
came_if h got.Fault = h
came_if h _ = came h

-- The fields with the alarms of VAL raised.
abbrev pub alarmed : BodyState Sel → BodyState Sel
alarmed h =
    let t = tested (record { body = h.body.analog; condition = h.condition }) in
    record { body = record h.body { analog = t.body }; condition = t.condition }

unfoldable pub sel_taken : BodyState Sel → Got → BodyState Sel
sel_taken h got = alarmed (came_if h got)

-- ---- Posts and the load

abbrev pub sel_posted : Sel → Bool → Sel
sel_posted b alarm_changed = record b { analog = analog_posted b.analog; inputs = posted alarm_changed b.inputs }

-- A constant in NVL must convert to SELN.
abbrev pub sel_constant_kind : OwnField → Option InputKind
sel_constant_kind Nvl = Some (input.Number range.UShort)
sel_constant_kind field = inputs_constant_kind field

-- The fields with NVL put into SELN, if it is a constant.
unfoldable pub constant_put : Sel → Link → Sel
constant_put b link = record b { number = unwrap_or (option_and_then ushort_in (constant_in (Numbers range.UShort) link)) b.number }

unfoldable pub sel_loaded : Sel → Sel
sel_loaded b = let p = constant_put b b.number_input.link in record p { analog = analog_settled p.analog; inputs = settled p.inputs }

-- ---- All of it

abbrev pub sel : BodyRules Sel
sel = record {
  missing = new_sel;
  record_type = λ b. type.Sel;
  link = λ b. sel_link b.number_input b.inputs.links;
  with_link = sel_with_link;
  calculation = λ b field. None;
  with_calculation = λ b field c. b;
  states = λ b. [];
  get = sel_get;
  stored = sel_stored;
  begin = sel_begin;
  inputs = sel_inputs;
  input_kind = λ h. input.Number range.UShort;
  taken = sel_taken;
  output = λ h got. NoOutput;
  posted = sel_posted;
  constant_kind = λ h. sel_constant_kind;
  loaded = λ h. record h { body = sel_loaded h.body };
}
