-- Comparisons of severities. Record Reference Manual, "Alarm Fields".
use Rattle.std.specs.Prelude.{Bool, true, false}
use Rattle.ioc_menus.specs.declared.severity.Severity.{Severity}
use Rattle.ioc_menus.specs.declared.severity.Severity.TheVariants.{NoAlarm}

-- Whether the severity is other than NO_ALARM.
abbrev pub is_alarm : Severity → Bool
is_alarm NoAlarm = false
is_alarm _ = true
