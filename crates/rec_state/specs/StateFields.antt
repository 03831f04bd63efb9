-- The fields that bi, bo, mbbi and mbbo share, and their alarms. Record Reference Manual, "Binary
-- Input Record", "Binary Output Record", "Multi-Bit Binary Input Record" and "Multi-Bit Binary
-- Output Record". `k` has the rules of the states.
use Rattle.std.specs.Prelude.{ℕ, ℤ, Bool, ◌==◌, ◌&&◌, not, if◌then◌else◌, Option, Some, None, unwrap_or}
use Rattle.ioc_values.specs.declared.value.Value.{Value}
use Rattle.ioc_values.specs.declared.value.Value.TheVariants as value
use Rattle.ioc_menus.specs.declared.severity.Severity.TheVariants.{NoAlarm}
use Rattle.ioc_menus.specs.declared.status.Status.TheVariants as status
use Rattle.ioc_menus.specs.Numbers.{severity_number}
use Rattle.ioc_fields.specs.declared.field_no.OwnField.{OwnField}
use Rattle.ioc_fields.specs.declared.field_no.OwnField.TheVariants.{Val, Rval, Mask, Cosv, Lalm}
use Rattle.ioc_dbcommon.specs.declared.body.Got.{Got}
use Rattle.ioc_dbcommon.specs.Condition.{raised}
use Rattle.ioc_dbcommon.specs.Parts.{ulong_in, state_in, severity_in}
use Rattle.ioc_dbcommon.specs.Raw.{raw_came, state_came, raw_constant, state_constant}
use Rattle.ioc_record.specs.BodyRules.{BodyState}
use Rattle.rec_state.specs.States.{StateRules}
use Rattle.rec_state.specs.declared.state_fields.StateFields.{StateFields}

-- ---- Fields

unfoldable pub new_fields : {S : Type 0} → StateRules S → StateFields S
new_fields k = record { value = 0; raw = 0; mask = 0; states = k.new; change_severity = NoAlarm; last_alarmed = 0 }

unfoldable pub fields_get : {S : Type 0} → StateRules S → StateFields S → OwnField → Option Value
fields_get k t Val = Some (value.Enum t.value)
fields_get k t Rval = Some (value.ULong t.raw)
fields_get k t Mask = Some (value.ULong t.mask)
fields_get k t Cosv = Some (value.Enum (severity_number t.change_severity))
fields_get k t Lalm = Some (value.UShort t.last_alarmed)
fields_get k t field = k.get t.states field

-- The fields with a converted value stored. A value of another kind changes nothing.
unfoldable pub fields_stored : {S : Type 0} → StateRules S → StateFields S → OwnField → Value → StateFields S
fields_stored k t Val v = record t { value = unwrap_or (state_in v) t.value }
fields_stored k t Rval v = record t { raw = unwrap_or (ulong_in v) t.raw }
fields_stored k t Mask v = record t { mask = unwrap_or (ulong_in v) t.mask }
fields_stored k t Cosv v = record t { change_severity = unwrap_or (severity_in v) t.change_severity }
fields_stored k t field v = record t { states = k.stored t.states field v }

-- The fields with a converted value stored. VAL clears UDF.
unfoldable pub put : {S : Type 0} → StateRules S → BodyState (StateFields S) → OwnField → Value → BodyState (StateFields S)
put k h Val v = record { body = fields_stored k h.body Val v; condition = record h.condition { undefined = 0 } }
put k h field v = record h { body = fields_stored k h.body field v }

-- ---- VAL and RVAL

-- The fields with the bits of a number that MASK leaves in RVAL. VAL is set from these, and UDF is
-- cleared.
unfoldable pub raw_taken : {S : Type 0} → StateRules S → BodyState (StateFields S) → ℕ → BodyState (StateFields S)
raw_taken k h raw =
    let bits = k.masked h.body.mask raw in
    record { body = record h.body { raw = bits; value = k.state_of h.body.states bits }; condition = record h.condition { undefined = 0 } }

-- The fields with a number stored in RVAL in this way, if there is one.
abbrev pub raw_taken_if : {S : Type 0} → StateRules S → BodyState (StateFields S) → Option ℕ → BodyState (StateFields S)
raw_taken_if k h None = h
raw_taken_if k h (Some raw) = raw_taken k h raw

-- The fields with a number stored in VAL and UDF cleared, if there is one.
abbrev pub value_taken_if : {S : Type 0} → BodyState (StateFields S) → Option ℕ → BodyState (StateFields S)
value_taken_if h None = h
value_taken_if h (Some value) = record { body = record h.body { value = value }; condition = record h.condition { undefined = 0 } }

-- The fields with RVAL set from VAL. RVAL stays the same if there is none for this VAL.
unfoldable pub converted : {S : Type 0} → StateRules S → StateFields S → StateFields S
converted k t = record t { raw = unwrap_or (k.raw_of t.states t.mask t.value) t.raw }

-- ---- Alarms

-- The fields with COS raised, if the state has changed.
unfoldable pub changed : {S : Type 0} → BodyState (StateFields S) → BodyState (StateFields S)
changed h =
    if h.body.value == h.body.last_alarmed then h
    else record { body = record h.body { last_alarmed = h.body.value }; condition = raised status.Cos h.body.change_severity h.condition }

-- The fields with the alarm of an undefined value raised, or else those of the state and of a
-- change.
unfoldable pub tested : {S : Type 0} → StateRules S → BodyState (StateFields S) → BodyState (StateFields S)
tested k h =
    if h.condition.undefined == 0
    then changed (record h { condition = raised status.State (k.severity h.body.states h.body.value) h.condition })
    else record h { condition = raised status.Udf h.condition.undefined_severity h.condition }

-- The fields of an input with its alarms raised. A defined VAL that isn't a state may have none.
unfoldable pub input_tested : {S : Type 0} → StateRules S → BodyState (StateFields S) → BodyState (StateFields S)
input_tested k h = if h.condition.undefined == 0 && not (k.has_alarms h.body.value) then h else tested k h

-- ---- The bodies

-- The fields after an input was read. If it is the raw value it is stored in RVAL, from which VAL is
-- set, else in VAL.
abbrev pub came : {S : Type 0} → StateRules S → Bool → BodyState (StateFields S) → Got → BodyState (StateFields S)
came k raw h got = if raw then raw_taken_if k h (raw_came got h.body.raw) else value_taken_if h (state_came got h.body.value)

unfoldable pub input_worked : {S : Type 0} → StateRules S → Bool → BodyState (StateFields S) → Got → BodyState (StateFields S)
input_worked k raw h got = input_tested k (came k raw h got)

-- The fields with RVAL set from VAL, if an output converts it after this input.
abbrev pub converted_after : {S : Type 0} → StateRules S → Got → BodyState (StateFields S) → BodyState (StateFields S)
converted_after k got h = if k.converts got h.condition.undefined then record h { body = converted k h.body } else h

-- The fields after the input of an output. A value is stored in VAL and clears UDF, RVAL follows
-- VAL, and the alarms are raised.
unfoldable pub output_worked : {S : Type 0} → StateRules S → BodyState (StateFields S) → Got → BodyState (StateFields S)
output_worked k h got = tested k (converted_after k got (value_taken_if h (state_came got h.body.value)))

-- ---- The load

-- The fields with a constant put into RVAL, if it fits.
abbrev pub raw_put : {S : Type 0} → BodyState (StateFields S) → ℤ → BodyState (StateFields S)
raw_put h z = record h { body = record h.body { raw = unwrap_or (raw_constant z) h.body.raw } }

-- The fields with a constant INP put. It goes into RVAL if the raw value is read, and UDF stays the
-- same; otherwise it goes into VAL, which clears UDF, if it is at most 65535.
abbrev pub constant_put : {S : Type 0} → Bool → BodyState (StateFields S) → ℤ → BodyState (StateFields S)
constant_put raw h z = if raw then raw_put h z else value_taken_if h (state_constant z)

-- The fields with MASK as a load leaves it.
abbrev pub mask_loaded : {S : Type 0} → StateRules S → StateFields S → StateFields S
mask_loaded k t = record t { mask = k.loaded_mask t.states t.mask }

abbrev pub mask_made : {S : Type 0} → StateRules S → BodyState (StateFields S) → BodyState (StateFields S)
mask_made k h = record h { body = mask_loaded k h.body }

-- The fields with LALM set to VAL.
abbrev pub settled : {S : Type 0} → BodyState (StateFields S) → BodyState (StateFields S)
settled h = record h { body = record h.body { last_alarmed = h.body.value } }
