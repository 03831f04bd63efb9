-- The types longout and int64out. Record Reference Manual, "Long Output Record" and "64bit Integer
-- Output Record".
use Rattle.std.specs.Prelude.{if◌then◌else◌, [], Option, Some, unwrap_or, None}
use Rattle.ioc_values.specs.declared.value.Value.{Value}
use Rattle.ioc_alarms.specs.Order.{LimitOrder}
use Rattle.ioc_fields.specs.declared.field_no.OwnField.{OwnField}
use Rattle.ioc_fields.specs.declared.field_no.OwnField.TheVariants.{Val, Omsl, Drvh, Drvl, Ivoa, Ivov}
use Rattle.ioc_dbcommon.specs.declared.body.Got.{Got}
use Rattle.ioc_dbcommon.specs.declared.body.Got.TheVariants as got
use Rattle.ioc_dbcommon.specs.declared.body.InputKind.TheVariants as input
use Rattle.ioc_dbcommon.specs.declared.body.Output.{Output}
use Rattle.ioc_dbcommon.specs.declared.body.Output.TheVariants.{NoOutput}
use Rattle.ioc_dbcommon.specs.Drive.{new_drive, drive_link, drive_with_link, drive_get, drive_stored, drive_begin, sets, drives, written}
use Rattle.ioc_record.specs.BodyRules.{BodyRules, BodyState, dol_constant_kind}
use Rattle.rec_numeric.specs.Number.{NumberRules}
use Rattle.rec_numeric.specs.Constant.{constant_loaded}
use Rattle.rec_numeric.specs.Numeric.{new_numeric, numeric_get, numeric_stored, tested, with_last_alarmed}
use Rattle.rec_numeric.specs.declared.output.NumericOutput.{NumericOutput}

-- ---- Fields

unfoldable pub new_output : {N : Type 0} → NumberRules N → NumericOutput N
new_output k = record { numbers = new_numeric k; drive = new_drive; drive_high = k.zero; drive_low = k.zero; invalid_value = k.zero }

unfoldable pub output_get : {N : Type 0} → NumberRules N → NumericOutput N → OwnField → Option Value
output_get k b Drvh = Some (k.value b.drive_high)
output_get k b Drvl = Some (k.value b.drive_low)
output_get k b Ivov = Some (k.value b.invalid_value)
output_get k b Omsl = drive_get b.drive Omsl
output_get k b Ivoa = drive_get b.drive Ivoa
output_get k b field = numeric_get k b.numbers field

abbrev pub numbers_stored : {N : Type 0} → NumberRules N → BodyState (NumericOutput N) → OwnField → Value → BodyState (NumericOutput N)
numbers_stored k h field v = record h { body = record h.body { numbers = numeric_stored k h.body.numbers field v } }

-- The fields with a converted value stored. VAL clears UDF.
unfoldable pub output_stored : {N : Type 0} → NumberRules N → BodyState (NumericOutput N) → OwnField → Value → BodyState (NumericOutput N)
output_stored k h Val v = let stored = numbers_stored k h Val v in record stored { condition = record h.condition { undefined = 0 } }
output_stored k h Drvh v = record h { body = record h.body { drive_high = unwrap_or (k.in_value v) h.body.drive_high } }
output_stored k h Drvl v = record h { body = record h.body { drive_low = unwrap_or (k.in_value v) h.body.drive_low } }
output_stored k h Ivov v = record h { body = record h.body { invalid_value = unwrap_or (k.in_value v) h.body.invalid_value } }
output_stored k h Omsl v = record h { body = record h.body { drive = drive_stored h.body.drive Omsl v } }
output_stored k h Ivoa v = record h { body = record h.body { drive = drive_stored h.body.drive Ivoa v } }
output_stored k h field v = numbers_stored k h field v

-- ---- The body

-- The fields with another VAL.
abbrev pub with_value : {N : Type 0} → NumericOutput N → N → NumericOutput N
with_value b value = record b { numbers = record b.numbers { value = value } }

-- The value, or the limit that it exceeds.
unfoldable pub within : {N : Type 0} → LimitOrder N → N → N → N → N
within order value low high = if order.is_less value low then low else if order.is_less high value then high else value

-- VAL within the drive limits, which only apply if DRVH is greater than DRVL.
unfoldable pub limited_value : {N : Type 0} → LimitOrder N → NumericOutput N → N
limited_value order b =
    if order.is_less b.drive_low b.drive_high then within order b.numbers.value b.drive_low b.drive_high else b.numbers.value

abbrev pub limited : {N : Type 0} → LimitOrder N → BodyState (NumericOutput N) → BodyState (NumericOutput N)
limited order h = record h { body = with_value h.body (limited_value order h.body) }

-- The fields with a value stored in VAL, which clears UDF.
abbrev pub given : {N : Type 0} → NumberRules N → BodyState (NumericOutput N) → Value → BodyState (NumericOutput N)
given k h v = record { body = with_value h.body (unwrap_or (k.in_value v) h.body.numbers.value); condition = record h.condition { undefined = 0 } }

-- The fields after the input. A value is stored in VAL, which is kept within the drive limits, also
-- without a value. After a fault everything stays the same.
abbrev pub came : {N : Type 0} → NumberRules N → LimitOrder N → BodyState (NumericOutput N) → Got → BodyState (NumericOutput N)
came k order h (got.Value v) = limited order (given k h v)
came k order h got.Nothing = limited order h
came k order h got.Fault = h

-- The fields with the alarms of the number raised.
abbrev pub alarmed : {N : Type 0} → LimitOrder N → BodyState (NumericOutput N) → BodyState (NumericOutput N)
alarmed order h =
    let t = tested order (record { body = h.body.numbers; condition = h.condition }) in
    record { body = record h.body { numbers = t.body }; condition = t.condition }

unfoldable pub worked : {N : Type 0} → NumberRules N → LimitOrder N → BodyState (NumericOutput N) → Got → BodyState (NumericOutput N)
worked k order h got = alarmed order (came k order h got)

-- The fields with VAL set to IVOV, unlimited, if IVOA says so.
unfoldable pub settled : {N : Type 0} → BodyState (NumericOutput N) → BodyState (NumericOutput N)
settled h = if sets h.body.drive.on_invalid h.condition then record h { body = with_value h.body h.body.invalid_value } else h

unfoldable pub output_taken : {N : Type 0} → NumberRules N → LimitOrder N → BodyState (NumericOutput N) → Got → BodyState (NumericOutput N)
output_taken k order h got = settled (worked k order h got)

-- The output of VAL, unless IVOA says that nothing is driven.
abbrev pub driven : {N : Type 0} → NumberRules N → BodyState (NumericOutput N) → Output
driven k h = if drives h.body.drive.on_invalid h.condition then written h.body.drive.output (k.value h.body.numbers.value) else NoOutput

unfoldable pub output_driven : {N : Type 0} → NumberRules N → LimitOrder N → BodyState (NumericOutput N) → Got → Output
output_driven k order h got = driven k (output_taken k order h got)

-- ---- All of it

abbrev pub numeric_output : {N : Type 0} → NumberRules N → LimitOrder N → BodyRules (NumericOutput N)
numeric_output k order = record {
  missing = new_output k;
  record_type = λ b. k.output_type;
  link = λ b. drive_link b.drive.output b.drive.desired;
  with_link = λ b field link. record b { drive = drive_with_link b.drive field link };
  calculation = λ b field. None;
  with_calculation = λ b field c. b;
  states = λ b. [];
  get = output_get k;
  stored = output_stored k;
  begin = λ b. drive_begin b.drive.mode b.drive.desired;
  inputs = λ b got. 0;
  input_kind = λ h. input.Number k.range;
  taken = output_taken k order;
  output = output_driven k order;
  posted = λ b changed. b;
  constant_kind = λ h. dol_constant_kind (input.Number k.range);
  loaded = λ h. constant_loaded (output_stored k) (λ b. record b { numbers = with_last_alarmed b.numbers }) k.range h h.body.drive.desired.link;
}
