-- The marks of a record that is put to, requested again, or disabled. Application Developer's
-- Guide, "dbProcess", "dbPutField".
use Rattle.std.specs.Prelude.{None as Nothing_}
use Rattle.std.specs.Prelude.{Bool, true, false, ◌&&◌, is_some, if◌then◌else◌}
use Rattle.std.specs.Ordering.{int_eq}
use Rattle.ioc_dbcommon.specs.declared.common.Common.{Common}
use Rattle.ioc_values.specs.declared.value.Value.{Value}
use Rattle.ioc_fields.specs.declared.field_no.CommonField.TheVariants.{Disa}
use Rattle.ioc_dbcommon.specs.Disabling.{disabling_stored}
use Rattle.ioc_dbcommon.specs.Steps.{blocked, with_reprocess_mark, with_put_mark}

-- Holds if a request marks the record for reprocessing: the record awaits its completion, and the
-- requesting one is processed for a put.
abbrev pub is_put_down : Bool → Common → Bool
is_put_down by_put c = by_put && (c.active && is_some c.pending)

-- The fields of a record that is marked for reprocessing: RPRO is set, and the request counts as
-- one that found the record active.
abbrev pub put_down : Common → Common
put_down c = blocked (with_reprocess_mark true c)

-- An idle record takes the PUTF of the one that requests it.
unfoldable pub put_mark_passed : Bool → Common → Common
put_mark_passed by_put c = if c.active then c else with_put_mark by_put c

-- The device has answered later, and the body resumes. PACT is set again at the end of the body;
-- nothing reads it before.
abbrev pub resumed : Common → Common
resumed c = record c { active = false; pending = Nothing_ }

-- The end of a body: PUTF and RPRO are cleared, and the record is idle.
abbrev pub at_rest : Common → Common
at_rest c = record c { active = false; by_put = false; reprocess = false }

-- The fields with the value of SDIS in DISA.
unfoldable pub with_disable_input : Value → Common → Common
with_disable_input v c = record c { disabling = disabling_stored c.disabling Disa v }

-- Holds if DISA equals DISV.
abbrev pub is_disabled : Common → Bool
is_disabled c = int_eq c.disabling.input c.disabling.value
