-- The fields that control when a record is processed by scanning. Record Reference Manual, "Scan
-- Fields".
use Rattle.std.specs.Prelude.{Option, Some, None, [], pos, unwrap_or}
use Rattle.ioc_values.specs.declared.value.Value.{Value}
use Rattle.ioc_values.specs.declared.value.Value.TheVariants as value
use Rattle.ioc_menus.specs.declared.scan.Scan.TheVariants.{Passive}
use Rattle.ioc_menus.specs.declared.pini.Pini.TheVariants.{No}
use Rattle.ioc_menus.specs.declared.priority.Priority.TheVariants.{Low}
use Rattle.ioc_menus.specs.Numbers.{scan_number, pini_number, priority_number}
use Rattle.ioc_fields.specs.declared.field_no.CommonField.{CommonField}
use Rattle.ioc_fields.specs.declared.field_no.CommonField.TheVariants.{Scan, Pini, Phas, Evnt, Prio}
use Rattle.ioc_dbcommon.specs.declared.scanning.Scanning.{Scanning}
use Rattle.ioc_dbcommon.specs.Parts.{scan_in, pini_in, short_in, text_in, priority_in}

-- The fields of a new record, which is passive.
unfoldable pub new_scanning : Scanning
new_scanning = record { event = []; scan = Passive; at_start = No; phase = pos 0; priority = Low }

unfoldable pub scanning_get : Scanning → CommonField → Option Value
scanning_get s Scan = Some (value.Enum (scan_number s.scan))
scanning_get s Pini = Some (value.Enum (pini_number s.at_start))
scanning_get s Phas = Some (value.Short s.phase)
scanning_get s Evnt = Some (value.Text s.event)
scanning_get s Prio = Some (value.Enum (priority_number s.priority))
scanning_get s _ = None

-- The fields with a converted value stored.
unfoldable pub scanning_stored : Scanning → CommonField → Value → Scanning
scanning_stored s Scan v = record s { scan = unwrap_or (scan_in v) s.scan }
scanning_stored s Pini v = record s { at_start = unwrap_or (pini_in v) s.at_start }
scanning_stored s Phas v = record s { phase = unwrap_or (short_in v) s.phase }
scanning_stored s Evnt v = record s { event = unwrap_or (text_in v) s.event }
scanning_stored s Prio v = record s { priority = unwrap_or (priority_in v) s.priority }
scanning_stored s _ v = s
