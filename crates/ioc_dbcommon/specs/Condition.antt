-- Operations on the common fields that the body of a type uses. Record Reference Manual, "Alarm
-- Fields".
use Rattle.std.specs.Prelude.{[], ◌==◌, if◌then◌else◌, Option, Some, None, unwrap_or}
use Rattle.ioc_values.specs.declared.value.Value.{Value}
use Rattle.ioc_values.specs.declared.value.Value.TheVariants as value
use Rattle.ioc_menus.specs.declared.severity.Severity.{Severity}
use Rattle.ioc_menus.specs.declared.severity.Severity.TheVariants.{NoAlarm as NoSeverity, Invalid}
use Rattle.ioc_menus.specs.declared.status.Status.{Status}
use Rattle.ioc_menus.specs.declared.status.Status.TheVariants.{NoAlarm, Udf}
use Rattle.ioc_menus.specs.Numbers.{severity_number, status_number}
use Rattle.ioc_fields.specs.declared.field_no.CommonField.{CommonField}
use Rattle.ioc_fields.specs.declared.field_no.CommonField.TheVariants as field
use Rattle.ioc_links.specs.declared.link.Mode.{Mode}
use Rattle.ioc_alarms.specs.Alarms.{raised as raised_in, settled as settled_in, inherited as inherited_in}
use Rattle.ioc_dbcommon.specs.declared.condition.Condition.{Condition}
use Rattle.ioc_dbcommon.specs.Parts.{text_in, uchar_in, severity_in}

-- The condition with an alarm raised.
abbrev pub raised : Status → Severity → Condition → Condition
raised status severity c = record c { alarms = raised_in status severity c.alarms }

-- The condition with another record's alarm taken over.
abbrev pub inherited : Mode → Status → Severity → Condition → Condition
inherited mode status severity c = record c { alarms = inherited_in mode status severity c.alarms }

-- The condition with the raised alarm shown.
abbrev pub settled : Condition → Condition
settled c = record c { alarms = settled_in c.alarms }

-- The condition with UDF raised with UDFS, if the value is undefined.
unfoldable pub undefined_tested : Condition → Condition
undefined_tested c = if c.undefined == 0 then c else raised Udf c.undefined_severity c

-- The condition with UDF shown at the end of a load, with UDFS if the value is undefined and else
-- without severity.
unfoldable pub first_shown : Condition → Condition
first_shown c = record c {
  alarms = record {
    status = Udf;
    severity = if c.undefined == 0 then NoSeverity else c.undefined_severity;
    new_status = NoAlarm;
    new_severity = NoSeverity;
  };
}

-- The condition of a new record.
unfoldable pub new_condition : Condition
new_condition = record {
  device_type = [];
  undefined = 1;
  undefined_severity = Invalid;
  alarms = record { status = NoAlarm; severity = NoSeverity; new_status = NoAlarm; new_severity = NoSeverity };
}

unfoldable pub condition_get : Condition → CommonField → Option Value
condition_get c field.Dtyp = Some (value.Text c.device_type)
condition_get c field.Udf = Some (value.UChar c.undefined)
condition_get c field.Udfs = Some (value.Enum (severity_number c.undefined_severity))
condition_get c field.Stat = Some (value.Enum (status_number c.alarms.status))
condition_get c field.Sevr = Some (value.Enum (severity_number c.alarms.severity))
condition_get c field.Nsta = Some (value.Enum (status_number c.alarms.new_status))
condition_get c field.Nsev = Some (value.Enum (severity_number c.alarms.new_severity))
condition_get c _ = None

-- The condition with a converted value stored. A put doesn't change the alarms.
unfoldable pub condition_stored : Condition → CommonField → Value → Condition
condition_stored c field.Dtyp v = record c { device_type = unwrap_or (text_in v) c.device_type }
condition_stored c field.Udf v = record c { undefined = unwrap_or (uchar_in v) c.undefined }
condition_stored c field.Udfs v = record c { undefined_severity = unwrap_or (severity_in v) c.undefined_severity }
condition_stored c _ v = c
