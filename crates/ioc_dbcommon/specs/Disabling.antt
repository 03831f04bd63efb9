-- The fields that disable a record, and puts to it. Record Reference Manual, "Scan Fields".
use Rattle.std.specs.Prelude.{Option, Some, None, pos, unwrap_or}
use Rattle.ioc_values.specs.declared.value.Value.{Value}
use Rattle.ioc_values.specs.declared.value.Value.TheVariants as value
use Rattle.ioc_menus.specs.declared.severity.Severity.TheVariants.{NoAlarm}
use Rattle.ioc_menus.specs.Numbers.{severity_number}
use Rattle.ioc_fields.specs.declared.field_no.CommonField.{CommonField}
use Rattle.ioc_fields.specs.declared.field_no.CommonField.TheVariants.{Disv, Disa, Diss, Disp}
use Rattle.ioc_dbcommon.specs.declared.disabling.Disabling.{Disabling}
use Rattle.ioc_dbcommon.specs.Parts.{short_in, severity_in, uchar_in}

-- The fields of a new record.
unfoldable pub new_disabling : Disabling
new_disabling = record { value = pos 1; input = pos 0; severity = NoAlarm; puts = 0 }

unfoldable pub disabling_get : Disabling → CommonField → Option Value
disabling_get d Disv = Some (value.Short d.value)
disabling_get d Disa = Some (value.Short d.input)
disabling_get d Diss = Some (value.Enum (severity_number d.severity))
disabling_get d Disp = Some (value.UChar d.puts)
disabling_get d _ = None

-- The fields with a converted value stored.
unfoldable pub disabling_stored : Disabling → CommonField → Value → Disabling
disabling_stored d Disv v = record d { value = unwrap_or (short_in v) d.value }
disabling_stored d Disa v = record d { input = unwrap_or (short_in v) d.input }
disabling_stored d Diss v = record d { severity = unwrap_or (severity_in v) d.severity }
disabling_stored d Disp v = record d { puts = unwrap_or (uchar_in v) d.puts }
disabling_stored d _ v = d
