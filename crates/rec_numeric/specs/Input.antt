-- The types longin and int64in. Record Reference Manual, "Long Input Record" and "64bit Integer
-- Input Record".
use Rattle.std.specs.Prelude.{[], None}
use Rattle.ioc_values.specs.declared.value.Value.{Value}
use Rattle.ioc_alarms.specs.Order.{LimitOrder}
use Rattle.ioc_fields.specs.declared.field_no.OwnField.{OwnField}
use Rattle.ioc_fields.specs.declared.field_no.OwnField.TheVariants.{Val}
use Rattle.ioc_dbcommon.specs.declared.body.Got.{Got}
use Rattle.ioc_dbcommon.specs.declared.body.Got.TheVariants as got
use Rattle.ioc_dbcommon.specs.declared.body.InputKind.TheVariants as input
use Rattle.ioc_dbcommon.specs.declared.body.Output.TheVariants.{NoOutput}
use Rattle.ioc_dbcommon.specs.Source.{new_source, source_link, source_with_link, source_begin}
use Rattle.ioc_record.specs.BodyRules.{BodyRules, BodyState, inp_constant_kind}
use Rattle.rec_numeric.specs.Number.{NumberRules}
use Rattle.rec_numeric.specs.Constant.{constant_loaded}
use Rattle.rec_numeric.specs.Numeric.{new_numeric, numeric_get, numeric_stored, tested, with_last_alarmed}
use Rattle.rec_numeric.specs.declared.input.NumericInput.{NumericInput}

-- ---- Fields

unfoldable pub new_input : {N : Type 0} → NumberRules N → NumericInput N
new_input k = record { numbers = new_numeric k; source = new_source }

abbrev pub numbers_stored : {N : Type 0} → NumberRules N → BodyState (NumericInput N) → OwnField → Value → BodyState (NumericInput N)
numbers_stored k h field v = record h { body = record h.body { numbers = numeric_stored k h.body.numbers field v } }

-- The fields with a converted value stored. VAL clears UDF.
unfoldable pub input_stored : {N : Type 0} → NumberRules N → BodyState (NumericInput N) → OwnField → Value → BodyState (NumericInput N)
input_stored k h Val v = let stored = numbers_stored k h Val v in record stored { condition = record h.condition { undefined = 0 } }
input_stored k h field v = numbers_stored k h field v

-- ---- The body

-- The fields with the alarms of the number raised.
abbrev pub alarmed : {N : Type 0} → LimitOrder N → BodyState (NumericInput N) → BodyState (NumericInput N)
alarmed order h =
    let t = tested order (record { body = h.body.numbers; condition = h.condition }) in
    record { body = record h.body { numbers = t.body }; condition = t.condition }

-- The fields after the input. A value is stored in VAL and clears UDF; without a value, and after a
-- fault, both stay the same.
abbrev pub came : {N : Type 0} → NumberRules N → BodyState (NumericInput N) → Got → BodyState (NumericInput N)
came k h (got.Value v) = input_stored k h Val v
came k h _ = h

unfoldable pub input_taken : {N : Type 0} → NumberRules N → LimitOrder N → BodyState (NumericInput N) → Got → BodyState (NumericInput N)
input_taken k order h got = alarmed order (came k h got)

-- ---- All of it

abbrev pub numeric_input : {N : Type 0} → NumberRules N → LimitOrder N → BodyRules (NumericInput N)
numeric_input k order = record {
  missing = new_input k;
  record_type = λ b. k.input_type;
  link = λ b. source_link b.source.input;
  with_link = λ b field link. record b { source = source_with_link b.source field link };
  calculation = λ b field. None;
  with_calculation = λ b field c. b;
  states = λ b. [];
  get = λ b. numeric_get k b.numbers;
  stored = input_stored k;
  begin = λ b. source_begin b.source.input;
  inputs = λ b got. 0;
  input_kind = λ h. input.Number k.range;
  taken = input_taken k order;
  output = λ h got. NoOutput;
  posted = λ b changed. b;
  constant_kind = λ h. inp_constant_kind (input.Number k.range);
  loaded = λ h. constant_loaded (input_stored k) (λ b. record b { numbers = with_last_alarmed b.numbers }) k.range h h.body.source.input.link;
}
