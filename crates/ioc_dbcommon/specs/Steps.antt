-- Operations on the common fields. Application Developer's Guide, "dbProcess"; Record Reference
-- Manual, "Alarm Fields".
use Rattle.std.specs.Prelude.{ℕ, List, [], ◌+◌, min, Bool, true, false, ◌||◌, nat_lt, if◌then◌else◌, Option, Some, None, ℤ, unwrap_or}
use Rattle.std.specs.Option.{option_and_then}
use Rattle.ioc_menus.specs.declared.severity.Severity.{Severity}
use Rattle.ioc_menus.specs.declared.severity.Severity.TheVariants.{NoAlarm as NoSeverity, Invalid}
use Rattle.ioc_menus.specs.declared.status.Status.{Status}
use Rattle.ioc_menus.specs.declared.status.Status.TheVariants.{NoAlarm, Scan, Disable}
use Rattle.ioc_menus.specs.declared.scan.Scan.{Scan as Scan-choice}
use Rattle.ioc_menus.specs.declared.scan.Scan.TheVariants.{Passive}
use Rattle.ioc_values.specs.declared.kind.Range.TheVariants.{Short}
use Rattle.ioc_values.specs.Conversion.{Numbers, of_number}
use Rattle.ioc_links.specs.declared.link.Link.{Link}
use Rattle.ioc_links.specs.declared.link.Link.TheVariants.{Constant}
use Rattle.ioc_links.specs.declared.link.Mode.{Mode}
use Rattle.ioc_alarms.specs.Alarms.{is_invalid}
use Rattle.ioc_dbcommon.specs.Condition.{raised as raised_in, settled as settled_in, inherited as inherited_in, new_condition}
use Rattle.ioc_dbcommon.specs.declared.common.Common.{Common}
use Rattle.ioc_dbcommon.specs.declared.condition.Condition.{Condition}
use Rattle.ioc_dbcommon.specs.Scanning.{new_scanning}
use Rattle.ioc_dbcommon.specs.Disabling.{new_disabling}
use Rattle.ioc_dbcommon.specs.declared.body.InputKind.{InputKind}
use Rattle.ioc_dbcommon.specs.declared.body.InputKind.TheVariants.{Number}
use Rattle.ioc_dbcommon.specs.Links.{no_link}
use Rattle.ioc_dbcommon.specs.Parts.{short_in}

-- Whether the status is SCAN: the record was found active too often.
abbrev pub is_scan : Status → Bool
is_scan Scan = true
is_scan _ = false

-- The fields with an alarm raised.
abbrev pub raised : Status → Severity → Common → Common
raised status severity c = record c { condition = raised_in status severity c.condition }

-- The fields with another record's alarm taken over.
abbrev pub inherited : Mode → Status → Severity → Common → Common
inherited mode status severity c = record c { condition = inherited_in mode status severity c.condition }

-- The fields after a request that found the record active. It is counted, and SCAN is raised and
-- shown if ten were counted before. Nothing changes if the record shows SCAN, and no alarm is
-- raised if it shows an INVALID one.
unfoldable pub blocked : Common → Common
blocked c =
    if is_scan c.condition.alarms.status then c
    else
    let counted : Common = record c { lock_count = min 255 (c.lock_count + 1) } in
    if nat_lt c.lock_count 10 || is_invalid c.condition.alarms.severity then counted
    else record counted { condition = settled_in (raised_in Scan Invalid c.condition) }

-- The fields with PACT set.
abbrev pub with_active : Bool → Common → Common
with_active active c = record c { active = active }

-- The fields after a request that found the record idle.
abbrev pub unblocked : Common → Common
unblocked c = record c { lock_count = 0 }

-- The fields after the raised alarm is shown: TIME is the time stamp of the event, and the record
-- is active while its links are followed.
abbrev pub shown : ℕ → Common → Common
shown moment c = record c { active = true; time = moment; condition = settled_in c.condition }

-- Whether the status is DISABLE.
abbrev pub is_disable : Status → Bool
is_disable Disable = true
is_disable _ = false

-- The condition with DISABLE shown, with this severity, and no alarm raised.
abbrev pub disable_shown : Severity → Condition → Condition
disable_shown severity c = record c { alarms = record { status = Disable; severity = severity; new_status = NoAlarm; new_severity = NoSeverity } }

-- The fields after a request that found the record disabled: it shows DISABLE with DISS, unless it
-- shows DISABLE already, and PUTF and RPRO are cleared.
unfoldable pub disabled : Common → Common
disabled c = record c {
  by_put = false;
  reprocess = false;
  condition = if is_disable c.condition.alarms.status then c.condition else disable_shown c.disabling.severity c.condition;
}

-- The fields with PUTF set.
abbrev pub with_put_mark : Bool → Common → Common
with_put_mark by_put c = record c { by_put = by_put }

-- The fields with RPRO set.
abbrev pub with_reprocess_mark : Bool → Common → Common
with_reprocess_mark reprocess c = record c { reprocess = reprocess }

abbrev pub is_passive_choice : Scan-choice → Bool
is_passive_choice Passive = true
is_passive_choice _ = false

-- Whether the record is processed only if a client or another record asks for it.
abbrev pub is_passive : Common → Bool
is_passive c = is_passive_choice c.scanning.scan

-- The fields after the record has begun to wait for its device.
abbrev pub waiting : Common → Common
waiting c = record c { active = true; pending = Some (c.last_pending + 1); last_pending = c.last_pending + 1 }

-- The fields after the record's device has answered.
abbrev pub answered : Common → Common
answered c = record c { pending = None }

-- The fields with this put with notification, or with none.
abbrev pub with_notification : Option ℕ → Common → Common
with_notification number c = record c { notification = number }

-- The fields with one more change of the record's scan list numbered.
abbrev pub change_numbered : Common → Common
change_numbered c = record c { last_change = c.last_change + 1 }

-- The kind of SDIS's value, which is a Short.
abbrev pub disable_kind : InputKind
disable_kind = Number Short

-- A constant link as a Short, if it is in range.
abbrev pub short_constant : Link → Option ℤ
short_constant (Constant z) = option_and_then short_in (of_number (Numbers Short) z)
short_constant _ = None

-- The fields with a constant SDIS put into DISA, at the end of a load.
unfoldable pub constant_put : Common → Common
constant_put c = record c { disabling = record c.disabling { input = unwrap_or (short_constant c.disable_link.link) c.disabling.input } }

-- The fields of a new record.
unfoldable pub new_common : List ℕ → Common
new_common name = record {
  name = name;
  description = [];
  access_group = [];
  condition = new_condition;
  scanning = new_scanning;
  disabling = new_disabling;
  disable_link = no_link;
  forward_link = no_link;
  process = 0;
  lock_count = 0;
  active = false;
  by_put = false;
  reprocess = false;
  time = 0;
  pending = None;
  last_pending = 0;
  last_change = 0;
  notification = None;
}
