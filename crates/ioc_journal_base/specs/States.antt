-- The state of a record: what its fields have, and what no field shows. Record Reference Manual,
-- "Fields Common to All Record Types", and the record types.
use Rattle.std.specs.Prelude.{ℕ, Bool, not, ◌==◌, Option, Some, None, slice_get, unwrap_or}
use Rattle.std.specs.Option.{option_map}
use Rattle.ioc_values.specs.declared.value.Value.{Value}
use Rattle.ioc_values.specs.declared.value.Value.TheVariants as value
use Rattle.ioc_menus.specs.declared.status.Status.{Status}
use Rattle.ioc_menus.specs.Numbers.{statuses}
use Rattle.ioc_alarms.specs.declared.alarms.Alarms.{Alarms}
use Rattle.ioc_fields.specs.declared.field_no.FieldNo.{FieldNo}
use Rattle.ioc_fields.specs.declared.field_no.FieldNo.TheVariants.{Common as Common-field, Own}
use Rattle.ioc_fields.specs.declared.field_no.OwnField.{OwnField}
use Rattle.ioc_fields.specs.declared.field_no.OwnField.TheVariants.{Val, Lalm, Mlst, Alst, Init, Oval, Pval, LastLetter}
use Rattle.ioc_fields.specs.declared.field_no.CommonField.{CommonField}
use Rattle.ioc_fields.specs.declared.field_no.CommonField.TheVariants.{Name, Tse, Time, Stat, Sevr, Nsta, Nsev, Lcnt, Pact, Putf, Rpro}
use Rattle.ioc_dbcommon.specs.declared.common.Common.{Common}
use Rattle.ioc_dbcommon.specs.declared.link_field.LinkField.{LinkField}
use Rattle.ioc_dbcommon.specs.CommonFields.{common_stored}
use Rattle.ioc_dbcommon.specs.Parts.{double_in, long_in, int64_in, ushort_in, uchar_in, severity_in}
use Rattle.ioc_journal_file.specs.declared.base.HiddenState.{HiddenState}
use Rattle.ioc_journal_file.specs.declared.base.Part.{Part}
use Rattle.ioc_journal_file.specs.declared.base.Part.TheVariants as part
use Rattle.rec_numeric.specs.declared.input.NumericInput.{NumericInput}
use Rattle.rec_numeric.specs.declared.output.NumericOutput.{NumericOutput}
use Rattle.rec_state.specs.declared.input.StateInput.{StateInput}
use Rattle.rec_state.specs.declared.output.StateOutput.{StateOutput}
use Rattle.rec_analog.specs.declared.analog.Analog.{Analog}
use Rattle.rec_analog.specs.declared.input.Ai.{Ai as AiFields}
use Rattle.rec_analog.specs.declared.output.Ao.{Ao as AoFields}
use Rattle.rec_calc.specs.declared.calc.Calc.{Calc as CalcFields}
use Rattle.rec_calc.specs.declared.calcout.Calcout.{Calcout as CalcoutFields}
use Rattle.rec_calc.specs.Inputs.{with_sent}
use Rattle.rec_sel.specs.declared.sel.Sel.{Sel as SelFields}
use Rattle.rec_types.specs.declared.record.Body.{Body}
use Rattle.rec_types.specs.declared.record.Body.TheVariants.{Ai, Ao, Calc, Calcout, Sel, Longin, Longout, Int64in, Int64out, Bi, Bo, Mbbi, Mbbo}
use Rattle.rec_types.specs.Record.{Record, record_rules, stored}

-- ---- What a field has

abbrev pub link_or : Option LinkField → Option Value → Option Part
link_or (Some link) v = Some (part.Link link)
link_or None v = option_map part.Value v

abbrev pub link_or_value : Record → FieldNo → Option Part
link_or_value r f = link_or (record_rules.link r f) (record_rules.get r f)

-- What a field has that is part of the state. NAME and TSE never change, and the time stamp, which
-- TIME shows, stands beside the fields.
unfoldable pub part_of : Record → FieldNo → Option Part
part_of r (Common-field Name) = None
part_of r (Common-field Tse) = None
part_of r (Common-field Time) = None
part_of r f = link_or_value r f

-- ---- Fields set as they are, also those that no put changes

abbrev pub flag_in : Value → Option Bool
flag_in (value.UChar n) = Some (not (n == 0))
flag_in _ = None

abbrev pub status_in : Value → Option Status
status_in (value.Enum n) = slice_get statuses n
status_in _ = None

unfoldable pub alarms_with : Alarms → CommonField → Value → Alarms
alarms_with a Stat v = record a { status = unwrap_or (status_in v) a.status }
alarms_with a Sevr v = record a { severity = unwrap_or (severity_in v) a.severity }
alarms_with a Nsta v = record a { new_status = unwrap_or (status_in v) a.new_status }
alarms_with a Nsev v = record a { new_severity = unwrap_or (severity_in v) a.new_severity }
alarms_with a _ v = a

abbrev pub with_alarms : Common → Alarms → Common
with_alarms c a = record c { condition = record c.condition { alarms = a } }

-- The common fields with one set.
unfoldable pub common_with : Common → CommonField → Value → Common
common_with c Stat v = with_alarms c (alarms_with c.condition.alarms Stat v)
common_with c Sevr v = with_alarms c (alarms_with c.condition.alarms Sevr v)
common_with c Nsta v = with_alarms c (alarms_with c.condition.alarms Nsta v)
common_with c Nsev v = with_alarms c (alarms_with c.condition.alarms Nsev v)
common_with c Lcnt v = record c { lock_count = unwrap_or (uchar_in v) c.lock_count }
common_with c Pact v = record c { active = unwrap_or (flag_in v) c.active }
common_with c Putf v = record c { by_put = unwrap_or (flag_in v) c.by_put }
common_with c Rpro v = record c { reprocess = unwrap_or (flag_in v) c.reprocess }
common_with c f v = common_stored c f v

abbrev pub input_alarmed : {N : Type 0} → NumericInput N → Option N → NumericInput N
input_alarmed b n = record b { numbers = record b.numbers { last_alarmed = unwrap_or n b.numbers.last_alarmed } }

abbrev pub output_alarmed : {N : Type 0} → NumericOutput N → Option N → NumericOutput N
output_alarmed b n = record b { numbers = record b.numbers { last_alarmed = unwrap_or n b.numbers.last_alarmed } }

abbrev pub state_input_alarmed : {S : Type 0} → StateInput S → Option ℕ → StateInput S
state_input_alarmed b n = record b { fields = record b.fields { last_alarmed = unwrap_or n b.fields.last_alarmed } }

abbrev pub state_output_alarmed : {S : Type 0} → StateOutput S → Option ℕ → StateOutput S
state_output_alarmed b n = record b { fields = record b.fields { last_alarmed = unwrap_or n b.fields.last_alarmed } }

-- The type-specific fields of a type of whole numbers or states with LALM set.
unfoldable pub body_alarmed : Body → Value → Body
body_alarmed (Longin b) v = Longin (input_alarmed b (long_in v))
body_alarmed (Longout b) v = Longout (output_alarmed b (long_in v))
body_alarmed (Int64in b) v = Int64in (input_alarmed b (int64_in v))
body_alarmed (Int64out b) v = Int64out (output_alarmed b (int64_in v))
body_alarmed (Bi b) v = Bi (state_input_alarmed b (ushort_in v))
body_alarmed (Bo b) v = Bo (state_output_alarmed b (ushort_in v))
body_alarmed (Mbbi b) v = Mbbi (state_input_alarmed b (ushort_in v))
body_alarmed (Mbbo b) v = Mbbo (state_output_alarmed b (ushort_in v))
body_alarmed b v = b

-- The fields that the analog types share, with one set that no put changes.
unfoldable pub analog_kept : Analog → OwnField → Value → Analog
analog_kept b Lalm v = record b { last_alarmed = unwrap_or (double_in v) b.last_alarmed }
analog_kept b Mlst v = record b { last_monitored = unwrap_or (double_in v) b.last_monitored }
analog_kept b Alst v = record b { last_archived = unwrap_or (double_in v) b.last_archived }
analog_kept b f v = b

unfoldable pub ai_kept : AiFields → OwnField → Value → AiFields
ai_kept b Init v = record b { initial = unwrap_or (uchar_in v) b.initial }
ai_kept b f v = record b { analog = analog_kept b.analog f v }

unfoldable pub ao_kept : AoFields → OwnField → Value → AoFields
ao_kept b Oval v = record b { driven = unwrap_or (double_in v) b.driven }
ao_kept b Pval v = record b { previous = unwrap_or (double_in v) b.previous }
ao_kept b f v = record b { analog = analog_kept b.analog f v }

unfoldable pub calc_kept : CalcFields → OwnField → Value → CalcFields
calc_kept b (LastLetter slot) v = record b { inputs = with_sent b.inputs (LastLetter slot) v }
calc_kept b f v = record b { analog = analog_kept b.analog f v }

unfoldable pub calcout_kept : CalcoutFields → OwnField → Value → CalcoutFields
calcout_kept b Oval v = record b { output_value = unwrap_or (double_in v) b.output_value }
calcout_kept b Pval v = record b { previous = unwrap_or (double_in v) b.previous }
calcout_kept b f v = record b { calc = calc_kept b.calc f v }

unfoldable pub sel_kept : SelFields → OwnField → Value → SelFields
sel_kept b Val v = record b { analog = record b.analog { value = unwrap_or (double_in v) b.analog.value } }
sel_kept b (LastLetter slot) v = record b { inputs = with_sent b.inputs (LastLetter slot) v }
sel_kept b f v = record b { analog = analog_kept b.analog f v }

-- Those of a type of whole numbers or states: LALM alone is set.
unfoldable pub alarmed_kept : Body → OwnField → Value → Body
alarmed_kept b Lalm v = body_alarmed b v
alarmed_kept b f v = b

-- The type-specific fields with one set that no put changes.
unfoldable pub body_kept : Body → OwnField → Value → Body
body_kept (Ai b) f v = Ai (ai_kept b f v)
body_kept (Ao b) f v = Ao (ao_kept b f v)
body_kept (Calc b) f v = Calc (calc_kept b f v)
body_kept (Calcout b) f v = Calcout (calcout_kept b f v)
body_kept (Sel b) f v = Sel (sel_kept b f v)
body_kept b f v = alarmed_kept b f v

-- The record with the value of a field, which no other field follows.
unfoldable pub with_value : Record → FieldNo → Value → Record
with_value r (Common-field f) v = record r { common = common_with r.common f v }
with_value r (Own f) v = record r { body = body_kept (stored r.body r.common.condition f v).body f v }

-- The record with what a field has.
unfoldable pub with_part : Record → FieldNo → Part → Record
with_part r f (part.Value v) = with_value r f v
with_part r f (part.Link l) = record_rules.with_link r f l

-- ---- What no field shows

abbrev pub hidden_of : Record → HiddenState
hidden_of r = record {
  time = r.common.time;
  pending = r.common.pending;
  last_pending = r.common.last_pending;
  last_change = r.common.last_change;
  notification = r.common.notification;
}

abbrev pub with_hidden : Common → HiddenState → Common
with_hidden c s = record c { time = s.time; pending = s.pending; last_pending = s.last_pending; last_change = s.last_change; notification = s.notification }
