-- The operations on a record's alarm fields. Record Reference Manual, "Alarm Fields".
use Rattle.std.specs.Prelude.{Bool, true, false, not, nat_lt, ◌==◌, ◌||◌, if◌then◌else◌}
use Rattle.ioc_menus.specs.declared.severity.Severity.{Severity}
use Rattle.ioc_menus.specs.declared.severity.Severity.TheVariants.{NoAlarm as NoSeverity, Invalid}
use Rattle.ioc_menus.specs.declared.status.Status.{Status}
use Rattle.ioc_menus.specs.declared.status.Status.TheVariants.{NoAlarm, Link}
use Rattle.ioc_menus.specs.Numbers.{severity_number, status_number}
use Rattle.ioc_links.specs.declared.link.Mode.{Mode}
use Rattle.ioc_links.specs.declared.link.Mode.TheVariants.{Nms, Ms, Msi, Mss}
use Rattle.ioc_alarms.specs.declared.alarms.Alarms.{Alarms}

-- Whether the severity is INVALID, the greatest one.
abbrev pub is_invalid : Severity → Bool
is_invalid Invalid = true
is_invalid _ = false

-- Whether an alarm takes effect: its severity has a greater number than that of the alarms raised
-- before.
abbrev pub takes_effect : Severity → Alarms → Bool
takes_effect severity a = nat_lt (severity_number a.new_severity) (severity_number severity)

-- The alarms with an alarm raised, if it takes effect.
unfoldable pub raised : Status → Severity → Alarms → Alarms
raised status severity a =
    if takes_effect severity a
    then record a { new_status = status; new_severity = severity }
    else a

-- Whether STAT or SEVR changes when the raised alarm becomes the shown one.
abbrev pub changes : Alarms → Bool
changes a = not (status_number a.status == status_number a.new_status) || not (severity_number a.severity == severity_number a.new_severity)

-- The alarms after the raised alarm has become the shown one; none is raised any more.
unfoldable pub settled : Alarms → Alarms
settled a = record { status = a.new_status; severity = a.new_severity; new_status = NoAlarm; new_severity = NoSeverity }

-- The alarms after the alarm of another record is taken over by the mode of the link. Record
-- Reference Manual, "Link types: maximize severity attribute".
unfoldable pub inherited : Mode → Status → Severity → Alarms → Alarms
inherited Nms _ _ a = a
inherited Ms _ severity a = raised Link severity a
inherited Msi _ severity a = if is_invalid severity then raised Link severity a else a
inherited Mss cause severity a = raised cause severity a
