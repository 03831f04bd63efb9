-- The types bi and mbbi. Record Reference Manual, "Binary Input Record" and "Multi-Bit Binary Input
-- Record". `k` has the rules of the states.
use Rattle.std.specs.Prelude.{Bool, if◌then◌else◌, None}
use Rattle.ioc_values.specs.declared.value.Value.{Value}
use Rattle.ioc_values.specs.declared.kind.Range.TheVariants as range
use Rattle.ioc_links.specs.declared.link.Link.{Link}
use Rattle.ioc_links.specs.declared.link.Link.TheVariants.{Constant}
use Rattle.ioc_fields.specs.declared.field_no.OwnField.{OwnField}
use Rattle.ioc_dbcommon.specs.declared.body.Got.{Got}
use Rattle.ioc_dbcommon.specs.declared.body.InputKind.{InputKind}
use Rattle.ioc_dbcommon.specs.declared.body.InputKind.TheVariants as input
use Rattle.ioc_dbcommon.specs.declared.body.Output.TheVariants.{NoOutput}
use Rattle.ioc_dbcommon.specs.Raw.{is_raw}
use Rattle.ioc_dbcommon.specs.Source.{new_source, source_link, source_with_link, source_begin}
use Rattle.ioc_record.specs.BodyRules.{BodyRules, BodyState, inp_constant_kind}
use Rattle.rec_state.specs.States.{StateRules}
use Rattle.rec_state.specs.StateFields.{new_fields, fields_get, put, input_worked, constant_put, mask_made, settled}
use Rattle.rec_state.specs.declared.state_fields.StateFields.{StateFields}
use Rattle.rec_state.specs.declared.input.StateInput.{StateInput}

-- ---- Fields

unfoldable pub new_input : {S : Type 0} → StateRules S → StateInput S
new_input k = record { fields = new_fields k; source = new_source }

-- The fields of an input with its condition, and the input with these put back. INP stays the same.
abbrev pub fields_of : {S : Type 0} → BodyState (StateInput S) → BodyState (StateFields S)
fields_of h = record { body = h.body.fields; condition = h.condition }

abbrev pub with_fields : {S : Type 0} → BodyState (StateInput S) → BodyState (StateFields S) → BodyState (StateInput S)
with_fields h t = record { body = record h.body { fields = t.body }; condition = t.condition }

-- The input with a converted value stored. VAL clears UDF.
unfoldable pub input_stored : {S : Type 0} → StateRules S → BodyState (StateInput S) → OwnField → Value → BodyState (StateInput S)
input_stored k h field v = with_fields h (put k (fields_of h) field v)

-- ---- The body

-- Whether the raw value is read.
abbrev pub reads_raw : {S : Type 0} → BodyState (StateInput S) → Bool
reads_raw h = is_raw h.body.source.input.link h.condition

-- The kind of the input: that of RVAL if the raw value is read, else that of VAL.
unfoldable pub state_input_kind : {S : Type 0} → BodyState (StateInput S) → InputKind
state_input_kind h = if reads_raw h then input.Number range.ULong else input.Number range.UShort

-- The input after it was read, with its alarms raised.
unfoldable pub input_taken : {S : Type 0} → StateRules S → BodyState (StateInput S) → Got → BodyState (StateInput S)
input_taken k h got = with_fields h (input_worked k (reads_raw h) (fields_of h) got)

-- ---- The load

-- The fields with INP put, if it is a constant.
abbrev pub link_put : {S : Type 0} → Bool → BodyState (StateFields S) → Link → BodyState (StateFields S)
link_put raw t (Constant z) = constant_put raw t z
link_put raw t _ = t

-- The fields after the end of a load: MASK is set, a constant is put, and LALM becomes VAL.
unfoldable pub input_loaded : {S : Type 0} → StateRules S → BodyState (StateInput S) → BodyState (StateInput S)
input_loaded k h = with_fields h (settled (link_put (reads_raw h) (mask_made k (fields_of h)) h.body.source.input.link))

-- ---- All of it

abbrev pub state_input : {S : Type 0} → StateRules S → BodyRules (StateInput S)
state_input k = record {
  missing = new_input k;
  record_type = λ b. k.input_type;
  link = λ b. source_link b.source.input;
  with_link = λ b field link. record b { source = source_with_link b.source field link };
  calculation = λ b field. None;
  with_calculation = λ b field c. b;
  states = λ b. k.texts b.fields.states;
  get = λ b. fields_get k b.fields;
  stored = input_stored k;
  begin = λ b. source_begin b.source.input;
  inputs = λ b got. 0;
  input_kind = state_input_kind;
  taken = input_taken k;
  output = λ h got. NoOutput;
  posted = λ b changed. b;
  constant_kind = λ h. inp_constant_kind (input.Number range.ULong);
  loaded = input_loaded k;
}
