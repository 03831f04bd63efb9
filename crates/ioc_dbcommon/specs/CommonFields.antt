-- The values of the fields that every record has. Record Reference Manual, "Fields Common to All
-- Record Types".
use Rattle.std.specs.Prelude.{ℕ, Bool, if◌then◌else◌, Option, Some, None, take, pos, unwrap_or}
use Rattle.std.specs.Fmt.{signed_decimal}
use Rattle.ioc_values.specs.declared.value.Value.{Value}
use Rattle.ioc_values.specs.declared.value.Value.TheVariants as value
use Rattle.ioc_fields.specs.declared.field_no.CommonField.{CommonField}
use Rattle.ioc_fields.specs.declared.field_no.CommonField.TheVariants.{Name, Desc, Asg, Dtyp, Scan, Pini, Phas, Evnt, Tse, Disv, Disa, Sdis, Diss, Proc, Disp, Prio, Udf, Udfs, Flnk, Stat, Sevr, Nsta, Nsev, Lcnt, Pact, Putf, Rpro, Time}
use Rattle.ioc_dbcommon.specs.declared.common.Common.{Common}
use Rattle.ioc_dbcommon.specs.Condition.{condition_get, condition_stored}
use Rattle.ioc_dbcommon.specs.Scanning.{scanning_get, scanning_stored}
use Rattle.ioc_dbcommon.specs.Disabling.{disabling_get, disabling_stored}
use Rattle.ioc_dbcommon.specs.Parts.{text_in, uchar_in}

-- NAME shows the first bytes of the name.
unfoldable pub shown_name : Common → Value
shown_name c = value.Text (take 39 c.name)

-- TIME shows the time stamp in decimal.
unfoldable pub shown_time : ℕ → Value
shown_time moment = value.Text (take 39 (signed_decimal (pos moment)))

-- A flag shows as 0 or 1.
abbrev pub flag : Bool → Value
flag is_set = value.UChar (if is_set then 1 else 0)

-- The value of a field that every record has; links have none. TSE is always 0.
unfoldable pub common_get : Common → CommonField → Option Value
common_get c Name = Some (shown_name c)
common_get c Desc = Some (value.Text c.description)
common_get c Asg = Some (value.Text c.access_group)
common_get c Dtyp = condition_get c.condition Dtyp
common_get c Scan = scanning_get c.scanning Scan
common_get c Pini = scanning_get c.scanning Pini
common_get c Phas = scanning_get c.scanning Phas
common_get c Evnt = scanning_get c.scanning Evnt
common_get c Tse = Some (value.Short (pos 0))
common_get c Disv = disabling_get c.disabling Disv
common_get c Disa = disabling_get c.disabling Disa
common_get c Sdis = None
common_get c Diss = disabling_get c.disabling Diss
common_get c Proc = Some (value.UChar c.process)
common_get c Disp = disabling_get c.disabling Disp
common_get c Prio = scanning_get c.scanning Prio
common_get c Udf = condition_get c.condition Udf
common_get c Udfs = condition_get c.condition Udfs
common_get c Flnk = None
common_get c Stat = condition_get c.condition Stat
common_get c Sevr = condition_get c.condition Sevr
common_get c Nsta = condition_get c.condition Nsta
common_get c Nsev = condition_get c.condition Nsev
common_get c Lcnt = Some (value.UChar c.lock_count)
common_get c Pact = Some (flag c.active)
common_get c Putf = Some (flag c.by_put)
common_get c Rpro = Some (flag c.reprocess)
common_get c Time = Some (shown_time c.time)

-- The fields with a converted value stored.
unfoldable pub common_stored : Common → CommonField → Value → Common
common_stored c Desc v = record c { description = unwrap_or (text_in v) c.description }
common_stored c Asg v = record c { access_group = unwrap_or (text_in v) c.access_group }
common_stored c Dtyp v = record c { condition = condition_stored c.condition Dtyp v }
common_stored c Scan v = record c { scanning = scanning_stored c.scanning Scan v }
common_stored c Pini v = record c { scanning = scanning_stored c.scanning Pini v }
common_stored c Phas v = record c { scanning = scanning_stored c.scanning Phas v }
common_stored c Evnt v = record c { scanning = scanning_stored c.scanning Evnt v }
common_stored c Disv v = record c { disabling = disabling_stored c.disabling Disv v }
common_stored c Disa v = record c { disabling = disabling_stored c.disabling Disa v }
common_stored c Diss v = record c { disabling = disabling_stored c.disabling Diss v }
common_stored c Proc v = record c { process = unwrap_or (uchar_in v) c.process }
common_stored c Disp v = record c { disabling = disabling_stored c.disabling Disp v }
common_stored c Prio v = record c { scanning = scanning_stored c.scanning Prio v }
common_stored c Udf v = record c { condition = condition_stored c.condition Udf v }
common_stored c Udfs v = record c { condition = condition_stored c.condition Udfs v }
common_stored c _ v = c
