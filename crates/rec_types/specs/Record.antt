-- Records of all types: each follows the rules of its type. Record Reference Manual, one chapter
-- per type.
use Rattle.std.specs.Prelude.{ℕ, ℤ, Bool, List, Option}
use Rattle.ioc_values.specs.declared.value.Value.{Value}
use Rattle.ioc_fields.specs.declared.field_no.OwnField.{OwnField}
use Rattle.ioc_fields.specs.declared.record_type.RecordType.{RecordType}
use Rattle.ioc_fields.specs.declared.record_type.RecordType.TheVariants as type
use Rattle.ioc_dbcommon.specs.declared.condition.Condition.{Condition}
use Rattle.ioc_dbcommon.specs.declared.link_field.LinkField.{LinkField}
use Rattle.ioc_dbcommon.specs.declared.body.Want.{Want}
use Rattle.ioc_dbcommon.specs.declared.body.Got.{Got}
use Rattle.ioc_dbcommon.specs.declared.body.InputKind.{InputKind}
use Rattle.ioc_dbcommon.specs.declared.body.Output.{Output}
use Rattle.ioc_record.specs.declared.record.Record.{Record as Whole}
use Rattle.ioc_record.specs.RecordRules.{RecordRules}
use Rattle.ioc_record.specs.Whole.{whole, new_record as new_whole}
use Rattle.ioc_record.specs.BodyRules.{BodyRules, BodyState}
use Rattle.rec_numeric.specs.declared.input.NumericInput.{NumericInput}
use Rattle.rec_numeric.specs.declared.output.NumericOutput.{NumericOutput}
use Rattle.rec_numeric.specs.Number.{long_number, int64_number}
use Rattle.rec_numeric.specs.Types.{longin, int64in, longout, int64out}
use Rattle.rec_numeric.specs.Input.{new_input}
use Rattle.rec_numeric.specs.Output.{new_output}
use Rattle.rec_state.specs.declared.two_states.TwoStates.{TwoStates}
use Rattle.rec_state.specs.declared.sixteen_states.SixteenStates.{SixteenStates}
use Rattle.rec_state.specs.declared.input.StateInput.{StateInput}
use Rattle.rec_state.specs.declared.output.StateOutput.{StateOutput}
use Rattle.rec_state.specs.Types.{bi, mbbi, bo, mbbo, new_bi, new_mbbi, new_bo, new_mbbo}
use Rattle.rec_text.specs.declared.text_body.TextBody.{TextBody}
use Rattle.rec_text.specs.declared.stringin.Kept.{Kept}
use Rattle.rec_text.specs.TextBody.{new_text_body}
use Rattle.rec_text.specs.Stringin.{kept, stringin}
use Rattle.rec_text.specs.declared.stringout.Stringout.{Stringout as Stringout-fields}
use Rattle.rec_text.specs.Stringout.{stringout, new_stringout}
use Rattle.rec_flow.specs.declared.fanout.Fanout.{Fanout as Fanout-fields}
use Rattle.rec_flow.specs.Fanout.{fanout, new_fanout}
use Rattle.rec_flow.specs.declared.event.Posted.{Posted}
use Rattle.rec_flow.specs.Event.{posted, event}
use Rattle.rec_analog.specs.declared.input.Ai.{Ai as Ai-fields}
use Rattle.rec_analog.specs.Input.{ai, new_ai}
use Rattle.rec_analog.specs.declared.output.Ao.{Ao as Ao-fields}
use Rattle.rec_analog.specs.Output.{ao, new_ao}
use Rattle.rec_calc.specs.declared.calc.Calc.{Calc as Calc-fields}
use Rattle.rec_calc.specs.Calc.{calc, new_calc}
use Rattle.rec_calc.specs.declared.calcout.Calcout.{Calcout as Calcout-fields}
use Rattle.rec_calc.specs.Calcout.{calcout, new_calcout}
use Rattle.rec_sel.specs.declared.sel.Sel.{Sel as Sel-fields}
use Rattle.rec_sel.specs.Sel.{sel, new_sel}
use Rattle.rec_types.specs.declared.record.Body.{Body}
use Rattle.rec_types.specs.declared.record.Body.TheVariants.{Longin, Longout, Int64in, Int64out, Bi, Bo, Mbbi, Mbbo, Stringin, Stringout, Fanout, Event, Ai, Ao, Calc, Calcout, Sel}

-- The type-specific fields of a new record of a type.
abbrev pub new_body : RecordType → Body
new_body type.Longin = Longin (new_input long_number)
new_body type.Longout = Longout (new_output long_number)
new_body type.Int64in = Int64in (new_input int64_number)
new_body type.Int64out = Int64out (new_output int64_number)
new_body type.Bi = Bi new_bi
new_body type.Bo = Bo new_bo
new_body type.Mbbi = Mbbi new_mbbi
new_body type.Mbbo = Mbbo new_mbbo
new_body type.Stringin = Stringin (new_text_body kept)
new_body type.Stringout = Stringout new_stringout
new_body type.Fanout = Fanout new_fanout
new_body type.Event = Event (new_text_body posted)
new_body type.Ai = Ai new_ai
new_body type.Ao = Ao new_ao
new_body type.Calc = Calc new_calc
new_body type.Calcout = Calcout new_calcout
new_body type.Sel = Sel new_sel

-- The type-specific fields of a record with the rules of their type, and how they become a body of
-- any type.
pub record Typed : Type 1 where
  pub Of : Type 0
  pub rules : BodyRules Of
  pub it : Of
  pub back : Of → Body

-- The fields of a body, by its type.
abbrev pub typed : Body → Typed
typed (Longin b) = record { Of = NumericInput ℤ; rules = longin; it = b; back = Longin }
typed (Longout b) = record { Of = NumericOutput ℤ; rules = longout; it = b; back = Longout }
typed (Int64in b) = record { Of = NumericInput ℤ; rules = int64in; it = b; back = Int64in }
typed (Int64out b) = record { Of = NumericOutput ℤ; rules = int64out; it = b; back = Int64out }
typed (Bi b) = record { Of = StateInput TwoStates; rules = bi; it = b; back = Bi }
typed (Bo b) = record { Of = StateOutput TwoStates; rules = bo; it = b; back = Bo }
typed (Mbbi b) = record { Of = StateInput SixteenStates; rules = mbbi; it = b; back = Mbbi }
typed (Mbbo b) = record { Of = StateOutput SixteenStates; rules = mbbo; it = b; back = Mbbo }
typed (Stringin b) = record { Of = TextBody Kept; rules = stringin; it = b; back = Stringin }
typed (Stringout b) = record { Of = Stringout-fields; rules = stringout; it = b; back = Stringout }
typed (Fanout b) = record { Of = Fanout-fields; rules = fanout; it = b; back = Fanout }
typed (Event b) = record { Of = TextBody Posted; rules = event; it = b; back = Event }
typed (Ai b) = record { Of = Ai-fields; rules = ai; it = b; back = Ai }
typed (Ao b) = record { Of = Ao-fields; rules = ao; it = b; back = Ao }
typed (Calc b) = record { Of = Calc-fields; rules = calc; it = b; back = Calc }
typed (Calcout b) = record { Of = Calcout-fields; rules = calcout; it = b; back = Calcout }
typed (Sel b) = record { Of = Sel-fields; rules = sel; it = b; back = Sel }

-- The fields with the condition of the record.
abbrev pub held : (b : Body) → Condition → BodyState (typed b).Of
held b c = record { body = (typed b).it; condition = c }

abbrev pub left : {T : Type 0} → (T → Body) → BodyState T → BodyState Body
left back h = record { body = back h.body; condition = h.condition }

-- The rules of all types are those of each type. The last line covers every type except the first.
abbrev pub record_type : Body → RecordType
record_type (Longin b) = longin.record_type b
record_type b = (typed b).rules.record_type (typed b).it

abbrev pub link : Body → OwnField → Option LinkField
link (Longin b) = longin.link b
link b = (typed b).rules.link (typed b).it

abbrev pub with_link : Body → OwnField → LinkField → Body
with_link (Longin b) f l = Longin (longin.with_link b f l)
with_link b f l = (typed b).back ((typed b).rules.with_link (typed b).it f l)

abbrev pub calculation : Body → OwnField → Option (List ℕ)
calculation (Longin b) f = longin.calculation b f
calculation b f = (typed b).rules.calculation (typed b).it f

abbrev pub with_calculation : Body → OwnField → List ℕ → Body
with_calculation (Longin b) f c = Longin (longin.with_calculation b f c)
with_calculation b f c = (typed b).back ((typed b).rules.with_calculation (typed b).it f c)

abbrev pub states : Body → List (List ℕ)
states (Longin b) = longin.states b
states b = (typed b).rules.states (typed b).it

abbrev pub get : Body → OwnField → Option Value
get (Longin b) f = longin.get b f
get b f = (typed b).rules.get (typed b).it f

abbrev pub stored : Body → Condition → OwnField → Value → BodyState Body
stored (Longin b) c f v = left Longin (longin.stored (record { body = b; condition = c }) f v)
stored b c f v = left (typed b).back ((typed b).rules.stored (held b c) f v)

abbrev pub begin : Body → Want
begin (Longin b) = longin.begin b
begin b = (typed b).rules.begin (typed b).it

abbrev pub inputs : Body → Got → ℕ
inputs (Longin b) got = longin.inputs b got
inputs b got = (typed b).rules.inputs (typed b).it got

abbrev pub input_kind : Body → Condition → InputKind
input_kind (Longin b) c = longin.input_kind (record { body = b; condition = c })
input_kind b c = (typed b).rules.input_kind (held b c)

abbrev pub taken : Body → Condition → Got → BodyState Body
taken (Longin b) c got = left Longin (longin.taken (record { body = b; condition = c }) got)
taken b c got = left (typed b).back ((typed b).rules.taken (held b c) got)

abbrev pub output : Body → Condition → Got → Output
output (Longin b) c got = longin.output (record { body = b; condition = c }) got
output b c got = (typed b).rules.output (held b c) got

abbrev pub after_posts : Body → Bool → Body
after_posts (Longin b) changed = Longin (longin.posted b changed)
after_posts b changed = (typed b).back ((typed b).rules.posted (typed b).it changed)

abbrev pub constant_kind : Body → Condition → OwnField → Option InputKind
constant_kind (Longin b) c f = longin.constant_kind (record { body = b; condition = c }) f
constant_kind b c f = (typed b).rules.constant_kind (held b c) f

abbrev pub loaded : Body → Condition → BodyState Body
loaded (Longin b) c = left Longin (longin.loaded (record { body = b; condition = c }))
loaded b c = left (typed b).back ((typed b).rules.loaded (held b c))

abbrev pub body_rules : BodyRules Body
body_rules = record {
  missing = Longin longin.missing;
  record_type = record_type;
  link = link;
  with_link = with_link;
  calculation = calculation;
  with_calculation = with_calculation;
  states = states;
  get = get;
  stored = λ h. stored h.body h.condition;
  begin = begin;
  inputs = inputs;
  input_kind = λ h. input_kind h.body h.condition;
  taken = λ h. taken h.body h.condition;
  output = λ h. output h.body h.condition;
  posted = after_posts;
  constant_kind = λ h. constant_kind h.body h.condition;
  loaded = λ h. loaded h.body h.condition;
}

-- A record of any type.
abbrev pub Record : Type 0
Record = Whole Body

abbrev pub record_rules : RecordRules Record
record_rules = whole body_rules

-- A new record of a type.
abbrev pub new_record : RecordType → List ℕ → Record
new_record type name = new_whole name (new_body type)
