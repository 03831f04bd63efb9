-- The types bo and mbbo. Record Reference Manual, "Binary Output Record" and "Multi-Bit Binary
-- Output Record". `k` has the rules of the states.
use Rattle.std.specs.Prelude.{ℕ, if◌then◌else◌, Option, Some, unwrap_or, None}
use Rattle.ioc_values.specs.declared.value.Value.{Value}
use Rattle.ioc_values.specs.declared.value.Value.TheVariants as value
use Rattle.ioc_values.specs.declared.kind.Range.TheVariants as range
use Rattle.ioc_links.specs.declared.link.Link.{Link}
use Rattle.ioc_links.specs.declared.link.Link.TheVariants.{Constant}
use Rattle.ioc_fields.specs.declared.field_no.OwnField.{OwnField}
use Rattle.ioc_fields.specs.declared.field_no.OwnField.TheVariants.{Omsl, Ivoa, Ivov}
use Rattle.ioc_menus.specs.declared.ivoa.Ivoa.{Ivoa as IvoaMenu}
use Rattle.ioc_dbcommon.specs.declared.condition.Condition.{Condition}
use Rattle.ioc_dbcommon.specs.declared.body.Got.{Got}
use Rattle.ioc_dbcommon.specs.declared.body.InputKind.{InputKind}
use Rattle.ioc_dbcommon.specs.declared.body.InputKind.TheVariants as input
use Rattle.ioc_dbcommon.specs.declared.body.Output.{Output}
use Rattle.ioc_dbcommon.specs.declared.body.Output.TheVariants.{NoOutput}
use Rattle.ioc_dbcommon.specs.Parts.{ushort_in}
use Rattle.ioc_dbcommon.specs.Raw.{is_raw}
use Rattle.ioc_dbcommon.specs.Drive.{new_drive, drive_link, drive_with_link, drive_get, drive_stored, drive_begin, sets, drives, written}
use Rattle.ioc_record.specs.BodyRules.{BodyRules, BodyState, dol_constant_kind}
use Rattle.rec_state.specs.States.{StateRules}
use Rattle.rec_state.specs.StateFields.{new_fields, fields_get, put, value_taken_if, converted, output_worked, mask_made, settled}
use Rattle.rec_state.specs.declared.state_fields.StateFields.{StateFields}
use Rattle.rec_state.specs.declared.output.StateOutput.{StateOutput}

-- ---- Fields

unfoldable pub new_output : {S : Type 0} → StateRules S → StateOutput S
new_output k = record { fields = new_fields k; drive = new_drive; invalid_value = 0 }

unfoldable pub output_get : {S : Type 0} → StateRules S → StateOutput S → OwnField → Option Value
output_get k b Ivov = Some (value.UShort b.invalid_value)
output_get k b Omsl = drive_get b.drive Omsl
output_get k b Ivoa = drive_get b.drive Ivoa
output_get k b field = fields_get k b.fields field

-- The shared fields of an output with its condition, and the output with these put back. All other
-- fields stay the same.
abbrev pub fields_of : {S : Type 0} → BodyState (StateOutput S) → BodyState (StateFields S)
fields_of h = record { body = h.body.fields; condition = h.condition }

abbrev pub with_fields : {S : Type 0} → BodyState (StateOutput S) → BodyState (StateFields S) → BodyState (StateOutput S)
with_fields h t = record { body = record h.body { fields = t.body }; condition = t.condition }

-- The output with a converted value stored. VAL clears UDF.
unfoldable pub output_stored : {S : Type 0} → StateRules S → BodyState (StateOutput S) → OwnField → Value → BodyState (StateOutput S)
output_stored k h Ivov v = record h { body = record h.body { invalid_value = unwrap_or (ushort_in v) h.body.invalid_value } }
output_stored k h Omsl v = record h { body = record h.body { drive = drive_stored h.body.drive Omsl v } }
output_stored k h Ivoa v = record h { body = record h.body { drive = drive_stored h.body.drive Ivoa v } }
output_stored k h field v = with_fields h (put k (fields_of h) field v)

-- ---- The body

abbrev pub state_kind : InputKind
state_kind = input.Number range.UShort

-- The fields with VAL set to IVOV, if IVOA says so. It is converted whatever the input was.
unfoldable pub invalid_set : {S : Type 0} → StateRules S → IvoaMenu → ℕ → BodyState (StateFields S) → BodyState (StateFields S)
invalid_set k action value t =
    if sets action t.condition then record t { body = converted k (record t.body { value = value }) } else t

-- The output after its input, with its alarms raised and IVOV set.
unfoldable pub output_taken : {S : Type 0} → StateRules S → BodyState (StateOutput S) → Got → BodyState (StateOutput S)
output_taken k h got = with_fields h (invalid_set k h.body.drive.on_invalid h.body.invalid_value (output_worked k (fields_of h) got))

-- The driven value: RVAL if the raw value is written, else VAL.
unfoldable pub driven_value : {S : Type 0} → StateRules S → StateOutput S → Condition → Value
driven_value k b c = if is_raw b.drive.output.link c then value.ULong (k.driven b.fields.mask b.fields.raw) else value.UShort b.fields.value

-- The output of the driven value, unless IVOA says that nothing is driven.
abbrev pub driven : {S : Type 0} → StateRules S → BodyState (StateOutput S) → Output
driven k h =
    if drives h.body.drive.on_invalid h.condition then written h.body.drive.output (driven_value k h.body h.condition) else NoOutput

unfoldable pub output_driven : {S : Type 0} → StateRules S → BodyState (StateOutput S) → Got → Output
output_driven k h got = driven k (output_taken k h got)

-- ---- The load

-- The fields with DOL put into VAL, if it is a constant, which clears UDF.
abbrev pub link_put : {S : Type 0} → StateRules S → BodyState (StateFields S) → Link → BodyState (StateFields S)
link_put k t (Constant z) = value_taken_if t (k.constant z)
link_put k t _ = t

-- The fields after the end of a load: MASK is set, a constant is put, and LALM becomes VAL.
unfoldable pub output_loaded : {S : Type 0} → StateRules S → BodyState (StateOutput S) → BodyState (StateOutput S)
output_loaded k h = with_fields h (settled (link_put k (mask_made k (fields_of h)) h.body.drive.desired.link))

-- ---- All of it

abbrev pub state_output : {S : Type 0} → StateRules S → BodyRules (StateOutput S)
state_output k = record {
  missing = new_output k;
  record_type = λ b. k.output_type;
  link = λ b. drive_link b.drive.output b.drive.desired;
  with_link = λ b field link. record b { drive = drive_with_link b.drive field link };
  calculation = λ b field. None;
  with_calculation = λ b field c. b;
  states = λ b. k.texts b.fields.states;
  get = output_get k;
  stored = output_stored k;
  begin = λ b. drive_begin b.drive.mode b.drive.desired;
  inputs = λ b got. 0;
  input_kind = λ h. state_kind;
  taken = output_taken k;
  output = output_driven k;
  posted = λ b changed. b;
  constant_kind = λ h. dol_constant_kind state_kind;
  loaded = output_loaded k;
}
