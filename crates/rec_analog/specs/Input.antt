-- The type ai. Record Reference Manual, "Analog Input Record".
use Rattle.std.specs.Prelude.{ℤ, ◌==◌, ◌&&◌, if◌then◌else◌, [], Option, Some, None, unwrap_or}
use Rattle.std.specs.Option.{option_or}
use Rattle.std.specs.Float.{float_is_finite}
use Rattle.std.specs.Float.Ieee.{Float, binary64, add, sub, mul, ne}
use Rattle.ioc_double.specs.Size.{whole_double}
use Rattle.ioc_values.specs.declared.value.Value.{Value}
use Rattle.ioc_values.specs.declared.value.Value.TheVariants as value
use Rattle.ioc_values.specs.declared.kind.Range.TheVariants as range
use Rattle.ioc_values.specs.Conversion.{Numbers, Doubles}
use Rattle.ioc_links.specs.declared.link.Link.{Link}
use Rattle.ioc_fields.specs.declared.field_no.OwnField.{OwnField}
use Rattle.ioc_fields.specs.declared.field_no.OwnField.TheVariants.{Val, Smoo, Init, Rval}
use Rattle.ioc_fields.specs.declared.record_type.RecordType.TheVariants as type
use Rattle.ioc_dbcommon.specs.declared.body.Got.{Got}
use Rattle.ioc_dbcommon.specs.declared.body.Got.TheVariants as got
use Rattle.ioc_dbcommon.specs.declared.body.InputKind.{InputKind}
use Rattle.ioc_dbcommon.specs.declared.body.InputKind.TheVariants as input
use Rattle.ioc_dbcommon.specs.declared.body.Output.TheVariants.{NoOutput}
use Rattle.ioc_dbcommon.specs.Constant.{constant_in}
use Rattle.ioc_dbcommon.specs.Parts.{double_in, long_in}
use Rattle.ioc_dbcommon.specs.Raw.{is_raw_soft}
use Rattle.ioc_dbcommon.specs.Source.{new_source, source_link, source_with_link, source_begin}
use Rattle.ioc_record.specs.BodyRules.{BodyRules, BodyState, inp_constant_kind}
use Rattle.rec_analog.specs.Analog.{new_analog, analog_get, analog_stored, analog_posted, defined_by, undefined_if_nan, tested, settled}
use Rattle.rec_analog.specs.Scale.{new_scale, scale_get, scale_stored, engineering}
use Rattle.rec_analog.specs.declared.input.Ai.{Ai}

-- ---- Fields

unfoldable pub new_ai : Ai
new_ai = record { analog = new_analog; scale = new_scale; source = new_source; smoothing = whole_double 0; initial = 1 }

unfoldable pub ai_get : Ai → OwnField → Option Value
ai_get b Smoo = Some (value.Double b.smoothing)
ai_get b Init = Some (value.UChar b.initial)
ai_get b field = option_or (scale_get b.scale field) (analog_get b.analog field)

-- The fields with VAL set to a converted value, which clears UDF.
abbrev pub value_stored : BodyState Ai → Value → BodyState Ai
value_stored h v = record { body = record h.body { analog = analog_stored h.body.analog Val v }; condition = record h.condition { undefined = 0 } }

-- The fields with a converted value stored. VAL clears UDF.
unfoldable pub ai_stored : BodyState Ai → OwnField → Value → BodyState Ai
ai_stored h Val v = value_stored h v
ai_stored h Smoo v = record h { body = record h.body { smoothing = unwrap_or (double_in v) h.body.smoothing } }
ai_stored h field v = record h { body = record h.body { scale = scale_stored h.body.scale field v; analog = analog_stored h.body.analog field v } }

-- ---- The body

-- The kind of the input: that of RVAL if DTYP says that it is read, else that of VAL.
unfoldable pub ai_input_kind : BodyState Ai → InputKind
ai_input_kind h = if is_raw_soft h.condition then input.Number range.Long else input.Double

-- A new value by SMOO, which says how much of VAL stays in it. It counts as it is if SMOO is 0, if it is the first one, and
-- if VAL isn't finite.
unfoldable pub smoothed : Ai → Float → Float
smoothed b x =
    if ne b.smoothing (whole_double 0) && ((b.initial == 0) && float_is_finite b.analog.value)
    then add binary64 (mul binary64 x (sub binary64 (whole_double 1) b.smoothing)) (mul binary64 b.analog.value b.smoothing)
    else x

-- The fields after a value in engineering units: it is smoothed, goes into VAL, and says whether VAL is defined.
unfoldable pub value_taken : BodyState Ai → Float → BodyState Ai
value_taken h x =
    let y = smoothed h.body x in
    record { body = record h.body { analog = record h.body.analog { value = y }; initial = 0 }; condition = defined_by y h.condition }

-- The fields after a raw value: it goes into RVAL, and is converted.
unfoldable pub raw_taken : BodyState Ai → ℤ → BodyState Ai
raw_taken h raw =
    let b = record h.body { scale = record h.body.scale { raw = raw } } in
    value_taken (record h { body = b }) (engineering b.scale)

-- The fields after the input. Without one RVAL is converted if it is read, and else VAL stays; after a fault only INIT
-- changes.
unfoldable pub came : BodyState Ai → Got → BodyState Ai
came h (got.Value v) =
    if is_raw_soft h.condition then raw_taken h (unwrap_or (long_in v) h.body.scale.raw) else value_taken h (unwrap_or (double_in v) h.body.analog.value)
came h got.Nothing =
    if is_raw_soft h.condition then raw_taken h h.body.scale.raw else record h { condition = undefined_if_nan h.body.analog.value h.condition }
came h got.Fault = record h { body = record h.body { initial = 1 } }

-- The fields with the alarms of VAL raised.
abbrev pub alarmed : BodyState Ai → BodyState Ai
alarmed h =
    let t = tested (record { body = h.body.analog; condition = h.condition }) in
    record { body = record h.body { analog = t.body }; condition = t.condition }

unfoldable pub ai_taken : BodyState Ai → Got → BodyState Ai
ai_taken h got = alarmed (came h got)

-- ---- The load

abbrev pub raw_if : BodyState Ai → Option Value → BodyState Ai
raw_if h None = h
raw_if h (Some v) = record h { body = record h.body { scale = scale_stored h.body.scale Rval v } }

abbrev pub value_if : BodyState Ai → Option Value → BodyState Ai
value_if h None = h
value_if h (Some v) = value_stored h v

-- The fields with INP put, if it is a constant: into RVAL if that is read, if it fits, and else into VAL, which clears UDF.
unfoldable pub constant_put : BodyState Ai → Link → BodyState Ai
constant_put h link =
    if is_raw_soft h.condition then raw_if h (constant_in (Numbers range.Long) link) else value_if h (constant_in Doubles link)

unfoldable pub ai_loaded : BodyState Ai → BodyState Ai
ai_loaded h = let p = constant_put h h.body.source.input.link in record p { body = record p.body { analog = settled p.body.analog } }

-- ---- All of it

abbrev pub ai : BodyRules Ai
ai = record {
  missing = new_ai;
  record_type = λ b. type.Ai;
  link = λ b. source_link b.source.input;
  with_link = λ b field link. record b { source = source_with_link b.source field link };
  calculation = λ b field. None;
  with_calculation = λ b field c. b;
  states = λ b. [];
  get = ai_get;
  stored = ai_stored;
  begin = λ b. source_begin b.source.input;
  inputs = λ b got. 0;
  input_kind = ai_input_kind;
  taken = ai_taken;
  output = λ h got. NoOutput;
  posted = λ b changed. record b { analog = analog_posted b.analog };
  constant_kind = λ h. inp_constant_kind input.Double;
  loaded = ai_loaded;
}
