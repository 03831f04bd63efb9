-- The type ao. Record Reference Manual, "Analog Output Record".
use Rattle.std.specs.Prelude.{if◌then◌else◌, [], Option, Some, None, unwrap_or}
use Rattle.std.specs.Option.{option_or}
use Rattle.std.specs.Float.Ieee.{Float, binary64, add, sub, neg, lt, eq}
use Rattle.ioc_double.specs.Size.{whole_double}
use Rattle.ioc_values.specs.declared.value.Value.{Value}
use Rattle.ioc_values.specs.declared.value.Value.TheVariants as value
use Rattle.ioc_values.specs.Conversion.{Doubles}
use Rattle.ioc_links.specs.declared.link.Link.{Link}
use Rattle.ioc_menus.specs.declared.oif.Oif.{Oif as OifChoice}
use Rattle.ioc_menus.specs.declared.oif.Oif.TheVariants.{Full, Incremental}
use Rattle.ioc_menus.specs.Numbers.{oif_number}
use Rattle.ioc_fields.specs.declared.field_no.OwnField.{OwnField}
use Rattle.ioc_fields.specs.declared.field_no.OwnField.TheVariants.{Val, Oif, Oroc, Drvh, Drvl, Oval, Pval, Ivov, Omsl, Ivoa}
use Rattle.ioc_fields.specs.declared.record_type.RecordType.TheVariants as type
use Rattle.ioc_dbcommon.specs.declared.condition.Condition.{Condition}
use Rattle.ioc_dbcommon.specs.declared.body.Got.{Got}
use Rattle.ioc_dbcommon.specs.declared.body.Got.TheVariants as got
use Rattle.ioc_dbcommon.specs.declared.body.InputKind.TheVariants as input
use Rattle.ioc_dbcommon.specs.declared.body.Output.{Output}
use Rattle.ioc_dbcommon.specs.declared.body.Output.TheVariants.{NoOutput}
use Rattle.ioc_dbcommon.specs.Constant.{constant_in}
use Rattle.ioc_dbcommon.specs.Parts.{double_in, oif_in}
use Rattle.ioc_dbcommon.specs.Raw.{is_raw_soft}
use Rattle.ioc_dbcommon.specs.Drive.{new_drive, drive_link, drive_with_link, drive_get, drive_stored, drive_begin, sets, drives, written}
use Rattle.ioc_record.specs.BodyRules.{BodyRules, BodyState, dol_constant_kind}
use Rattle.rec_analog.specs.Analog.{new_analog, analog_get, analog_stored, analog_posted, defined_by, undefined_if_nan, tested, settled}
use Rattle.rec_analog.specs.Scale.{new_scale, scale_get, scale_stored, raw_of}
use Rattle.rec_analog.specs.declared.output.Ao.{Ao}

-- ---- Fields

unfoldable pub new_ao : Ao
new_ao = record {
  analog = new_analog;
  scale = new_scale;
  drive = new_drive;
  increment = Full;
  rate = whole_double 0;
  drive_high = whole_double 0;
  drive_low = whole_double 0;
  driven = whole_double 0;
  previous = whole_double 0;
  invalid_value = whole_double 0;
}

unfoldable pub ao_get : Ao → OwnField → Option Value
ao_get b Oif = Some (value.Enum (oif_number b.increment))
ao_get b Oroc = Some (value.Double b.rate)
ao_get b Drvh = Some (value.Double b.drive_high)
ao_get b Drvl = Some (value.Double b.drive_low)
ao_get b Oval = Some (value.Double b.driven)
ao_get b Pval = Some (value.Double b.previous)
ao_get b Ivov = Some (value.Double b.invalid_value)
ao_get b Omsl = drive_get b.drive Omsl
ao_get b Ivoa = drive_get b.drive Ivoa
ao_get b field = option_or (scale_get b.scale field) (analog_get b.analog field)

-- The fields with VAL set to a converted value, which clears UDF.
abbrev pub value_stored : BodyState Ao → Value → BodyState Ao
value_stored h v = record { body = record h.body { analog = analog_stored h.body.analog Val v }; condition = record h.condition { undefined = 0 } }

-- The fields with a converted value stored. VAL clears UDF.
unfoldable pub ao_stored : BodyState Ao → OwnField → Value → BodyState Ao
ao_stored h Val v = value_stored h v
ao_stored h Oif v = record h { body = record h.body { increment = unwrap_or (oif_in v) h.body.increment } }
ao_stored h Oroc v = record h { body = record h.body { rate = unwrap_or (double_in v) h.body.rate } }
ao_stored h Drvh v = record h { body = record h.body { drive_high = unwrap_or (double_in v) h.body.drive_high } }
ao_stored h Drvl v = record h { body = record h.body { drive_low = unwrap_or (double_in v) h.body.drive_low } }
ao_stored h Ivov v = record h { body = record h.body { invalid_value = unwrap_or (double_in v) h.body.invalid_value } }
ao_stored h Omsl v = record h { body = record h.body { drive = drive_stored h.body.drive Omsl v } }
ao_stored h Ivoa v = record h { body = record h.body { drive = drive_stored h.body.drive Ivoa v } }
ao_stored h field v = record h { body = record h.body { scale = scale_stored h.body.scale field v; analog = analog_stored h.body.analog field v } }

-- ---- The driven value

-- What came, by OIF: the value itself, or what is added to PVAL.
abbrev pub by_increment : OifChoice → Float → Float → Float
by_increment Full previous x = x
by_increment Incremental previous x = add binary64 x previous

unfoldable pub asked : Ao → Float → Float
asked b x = by_increment b.increment b.previous x

-- The value within the drive limits, which only apply if DRVH is greater than DRVL.
unfoldable pub limited : Ao → Float → Float
limited b x = if lt b.drive_low b.drive_high then (if lt b.drive_high x then b.drive_high else (if lt x b.drive_low then b.drive_low else x)) else x

-- The value, or one that is OROC away from OVAL if it is further away. With OROC 0 any change is made at once.
unfoldable pub slewed : Ao → Float → Float
slewed b x =
    let step = sub binary64 x b.driven in
    if eq b.rate (whole_double 0) then x
    else (if lt step (whole_double 0) then (if lt b.rate (neg step) then sub binary64 b.driven b.rate else x)
    else (if lt b.rate step then add binary64 b.driven b.rate else x))

-- The fields with a value driven: VAL and PVAL are the value within the drive limits, OVAL comes nearer to it by OROC, and
-- RVAL is the raw value of OVAL.
unfoldable pub driven_to : Ao → Float → Ao
driven_to b x =
    let y = limited b x in
    let z = slewed b y in
    record b { analog = record b.analog { value = y }; previous = y; driven = z; scale = record b.scale { raw = raw_of b.scale z } }

-- ---- The body

-- The fields after the input. What came, and without an input VAL, is driven. After a fault everything stays the same.
unfoldable pub came : BodyState Ao → Got → BodyState Ao
came h (got.Value v) =
    let b = driven_to h.body (asked h.body (unwrap_or (double_in v) h.body.analog.value)) in
    record { body = b; condition = defined_by b.analog.value h.condition }
came h got.Nothing =
    let b = driven_to h.body h.body.analog.value in
    record { body = b; condition = undefined_if_nan b.analog.value h.condition }
came h got.Fault = h

-- The fields with the alarms of VAL raised.
abbrev pub alarmed : BodyState Ao → BodyState Ao
alarmed h =
    let t = tested (record { body = h.body.analog; condition = h.condition }) in
    record { body = record h.body { analog = t.body }; condition = t.condition }

unfoldable pub worked : BodyState Ao → Got → BodyState Ao
worked h got = alarmed (came h got)

-- The fields with IVOV driven, if IVOA says so.
unfoldable pub invalid_set : BodyState Ao → BodyState Ao
invalid_set h = if sets h.body.drive.on_invalid h.condition then record h { body = driven_to h.body h.body.invalid_value } else h

unfoldable pub ao_taken : BodyState Ao → Got → BodyState Ao
ao_taken h got = invalid_set (worked h got)

-- The value that is written: RVAL if DTYP says so, else OVAL.
unfoldable pub driven_value : Ao → Condition → Value
driven_value b c = if is_raw_soft c then value.Long b.scale.raw else value.Double b.driven

-- The output of the driven value, unless IVOA says that nothing is driven.
abbrev pub driven_out : BodyState Ao → Output
driven_out h = if drives h.body.drive.on_invalid h.condition then written h.body.drive.output (driven_value h.body h.condition) else NoOutput

unfoldable pub ao_output : BodyState Ao → Got → Output
ao_output h got = driven_out (ao_taken h got)

-- ---- The load

abbrev pub value_if : BodyState Ao → Option Value → BodyState Ao
value_if h None = h
value_if h (Some v) = value_stored h v

-- The fields with DOL put into VAL, if it is a constant, which clears UDF.
unfoldable pub constant_put : BodyState Ao → Link → BodyState Ao
constant_put h link = value_if h (constant_in Doubles link)

-- The fields after the end of a load: LALM, MLST, ALST, OVAL and PVAL become VAL.
unfoldable pub ao_loaded : BodyState Ao → BodyState Ao
ao_loaded h =
    let p = constant_put h h.body.drive.desired.link in
    record p { body = record p.body { analog = settled p.body.analog; driven = p.body.analog.value; previous = p.body.analog.value } }

-- ---- All of it

abbrev pub ao : BodyRules Ao
ao = record {
  missing = new_ao;
  record_type = λ b. type.Ao;
  link = λ b. drive_link b.drive.output b.drive.desired;
  with_link = λ b field link. record b { drive = drive_with_link b.drive field link };
  calculation = λ b field. None;
  with_calculation = λ b field c. b;
  states = λ b. [];
  get = ao_get;
  stored = ao_stored;
  begin = λ b. drive_begin b.drive.mode b.drive.desired;
  inputs = λ b got. 0;
  input_kind = λ h. input.Double;
  taken = ao_taken;
  output = ao_output;
  posted = λ b changed. record b { analog = analog_posted b.analog };
  constant_kind = λ h. dol_constant_kind input.Double;
  loaded = ao_loaded;
}
