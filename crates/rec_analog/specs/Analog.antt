-- The fields that ai and ao share: the value with its limits, its deadbands, and how it is shown. Record Reference Manual,
-- "Analog Input Record" and "Analog Output Record".
use Rattle.std.specs.Prelude.{[], ◌==◌, is_nan, if◌then◌else◌, Option, Some, None, unwrap_or}
use Rattle.std.specs.Float.Ieee.{Float}
use Rattle.ioc_double.specs.Size.{whole_double}
use Rattle.ioc_values.specs.declared.value.Value.{Value}
use Rattle.ioc_values.specs.declared.value.Value.TheVariants as value
use Rattle.ioc_menus.specs.declared.severity.Severity.TheVariants.{NoAlarm}
use Rattle.ioc_menus.specs.declared.status.Status.TheVariants.{Udf as UdfAlarm}
use Rattle.ioc_menus.specs.Numbers.{severity_number}
use Rattle.ioc_alarms.specs.declared.limits.AlarmLimits.{AlarmLimits}
use Rattle.ioc_alarms.specs.Limits.{limited}
use Rattle.ioc_alarms.specs.Order.{double_order}
use Rattle.ioc_fields.specs.declared.field_no.OwnField.{OwnField}
use Rattle.ioc_fields.specs.declared.field_no.OwnField.TheVariants.{Val, Prec, Egu, Hopr, Lopr, Hihi, Lolo, High, Low, Hhsv, Llsv, Hsv, Lsv, Hyst, Lalm, Mdel, Adel, Mlst, Alst}
use Rattle.ioc_dbcommon.specs.declared.condition.Condition.{Condition}
use Rattle.ioc_dbcommon.specs.Condition.{raised}
use Rattle.ioc_dbcommon.specs.Parts.{double_in, ushort_in, text_in, severity_in}
use Rattle.ioc_record.specs.BodyRules.{BodyState}
use Rattle.rec_analog.specs.declared.analog.Analog.{Analog}
use Rattle.rec_analog.specs.Deadband.{exceeds}

-- ---- Fields

unfoldable pub new_limits : AlarmLimits Float
new_limits = record {
  hihi = whole_double 0;
  lolo = whole_double 0;
  high = whole_double 0;
  low = whole_double 0;
  hihi_severity = NoAlarm;
  lolo_severity = NoAlarm;
  high_severity = NoAlarm;
  low_severity = NoAlarm;
  hysteresis = whole_double 0;
}

unfoldable pub new_analog : Analog
new_analog = record {
  value = whole_double 0;
  precision = 0;
  units = [];
  high_range = whole_double 0;
  low_range = whole_double 0;
  limits = new_limits;
  last_alarmed = whole_double 0;
  monitor_deadband = whole_double 0;
  archive_deadband = whole_double 0;
  last_monitored = whole_double 0;
  last_archived = whole_double 0;
}

unfoldable pub analog_get : Analog → OwnField → Option Value
analog_get b Val = Some (value.Double b.value)
analog_get b Prec = Some (value.UShort b.precision)
analog_get b Egu = Some (value.Text b.units)
analog_get b Hopr = Some (value.Double b.high_range)
analog_get b Lopr = Some (value.Double b.low_range)
analog_get b Hihi = Some (value.Double b.limits.hihi)
analog_get b Lolo = Some (value.Double b.limits.lolo)
analog_get b High = Some (value.Double b.limits.high)
analog_get b Low = Some (value.Double b.limits.low)
analog_get b Hhsv = Some (value.Enum (severity_number b.limits.hihi_severity))
analog_get b Llsv = Some (value.Enum (severity_number b.limits.lolo_severity))
analog_get b Hsv = Some (value.Enum (severity_number b.limits.high_severity))
analog_get b Lsv = Some (value.Enum (severity_number b.limits.low_severity))
analog_get b Hyst = Some (value.Double b.limits.hysteresis)
analog_get b Lalm = Some (value.Double b.last_alarmed)
analog_get b Mdel = Some (value.Double b.monitor_deadband)
analog_get b Adel = Some (value.Double b.archive_deadband)
analog_get b Mlst = Some (value.Double b.last_monitored)
analog_get b Alst = Some (value.Double b.last_archived)
analog_get b _ = None

-- The limits with a converted value stored in one of them, in a severity, or in HYST.
unfoldable pub limit_stored : AlarmLimits Float → OwnField → Value → AlarmLimits Float
limit_stored l Hihi v = record l { hihi = unwrap_or (double_in v) l.hihi }
limit_stored l Lolo v = record l { lolo = unwrap_or (double_in v) l.lolo }
limit_stored l High v = record l { high = unwrap_or (double_in v) l.high }
limit_stored l Low v = record l { low = unwrap_or (double_in v) l.low }
limit_stored l Hyst v = record l { hysteresis = unwrap_or (double_in v) l.hysteresis }
limit_stored l Hhsv v = record l { hihi_severity = unwrap_or (severity_in v) l.hihi_severity }
limit_stored l Llsv v = record l { lolo_severity = unwrap_or (severity_in v) l.lolo_severity }
limit_stored l Hsv v = record l { high_severity = unwrap_or (severity_in v) l.high_severity }
limit_stored l Lsv v = record l { low_severity = unwrap_or (severity_in v) l.low_severity }
limit_stored l _ v = l

-- The fields with a converted value stored. A value of another kind changes nothing.
unfoldable pub analog_stored : Analog → OwnField → Value → Analog
analog_stored b Val v = record b { value = unwrap_or (double_in v) b.value }
analog_stored b Prec v = record b { precision = unwrap_or (ushort_in v) b.precision }
analog_stored b Egu v = record b { units = unwrap_or (text_in v) b.units }
analog_stored b Hopr v = record b { high_range = unwrap_or (double_in v) b.high_range }
analog_stored b Lopr v = record b { low_range = unwrap_or (double_in v) b.low_range }
analog_stored b Mdel v = record b { monitor_deadband = unwrap_or (double_in v) b.monitor_deadband }
analog_stored b Adel v = record b { archive_deadband = unwrap_or (double_in v) b.archive_deadband }
analog_stored b field v = record b { limits = limit_stored b.limits field v }

-- ---- UDF

-- UDF by a value that came: 1 for NaN, and else 0.
unfoldable pub defined_by : Float → Condition → Condition
defined_by x c = record c { undefined = if is_nan x then 1 else 0 }

-- UDF where no value came: 1 if VAL is NaN, and else as it was.
unfoldable pub undefined_if_nan : Float → Condition → Condition
undefined_if_nan x c = if is_nan x then record c { undefined = 1 } else c

-- ---- Alarms

-- The fields with the alarms of limits raised.
unfoldable pub limited_at : BodyState Analog → BodyState Analog
limited_at h =
    let after = limited double_order h.body.value h.body.last_alarmed h.body.limits h.condition.alarms in
    record { body = record h.body { last_alarmed = after.1 }; condition = record h.condition { alarms = after.0 } }

-- The fields with the alarm of an undefined value raised, or else those of limits.
unfoldable pub tested : BodyState Analog → BodyState Analog
tested h = if h.condition.undefined == 0 then limited_at h else record h { condition = raised UdfAlarm h.condition.undefined_severity h.condition }

-- ---- Posts

-- The fields with LALM, MLST and ALST set to VAL, as at the end of a load.
unfoldable pub settled : Analog → Analog
settled b = record b { last_alarmed = b.value; last_monitored = b.value; last_archived = b.value }

-- The fields with MLST set to VAL, if that has moved by more than MDEL.
unfoldable pub monitored : Analog → Analog
monitored b = if exceeds b.last_monitored b.value b.monitor_deadband then record b { last_monitored = b.value } else b

-- The fields with ALST set to VAL, if that has moved by more than ADEL.
unfoldable pub archived : Analog → Analog
archived b = if exceeds b.last_archived b.value b.archive_deadband then record b { last_archived = b.value } else b

abbrev pub analog_posted : Analog → Analog
analog_posted b = archived (monitored b)
