-- The sixteen states of mbbi and mbbo. Record Reference Manual, "Multi-Bit Binary Input Record" and
-- "Multi-Bit Binary Output Record".
use Rattle.std.proofs.Common.{◌≡◌, ℕ, zero, suc, Bool, true, false, List, [], Option, Some, None, length, refl, ap, arith}
use Rattle.std.specs.List.{list_any, position}
use Rattle.std.specs.Option.{option_map}
use Rattle.std.specs.Prelude.{◌<◌, ◌==◌, ◌||◌, ◌%◌, ◌^◌, bit_and, if◌then◌else◌, not, replicate, slice_get, unwrap_or}
use Rattle.ioc_values.specs.declared.kind.Range.TheVariants.{ULong, Bits}
use Rattle.ioc_values.specs.declared.value.Value.{Value}
use Rattle.ioc_values.specs.declared.value.Value.TheVariants as value
use Rattle.ioc_menus.specs.declared.severity.Severity.{Severity}
use Rattle.ioc_menus.specs.declared.severity.Severity.TheVariants.{NoAlarm, Minor, Major, Invalid}
use Rattle.ioc_menus.specs.declared.menu.Menu.TheVariants as menu
use Rattle.ioc_menus.specs.Numbers.{severity_number, severities}
use Rattle.ioc_fields.specs.declared.field_kind.FieldKind.TheVariants.{Number, Text, Menu}
use Rattle.ioc_fields.specs.declared.field_no.OwnField.{OwnField}
use Rattle.ioc_fields.specs.declared.field_no.OwnField.TheVariants.{Shft, Nobt, Unsv, StateValue, StateText, StateSeverity}
use Rattle.ioc_fields.specs.declared.field_no.FieldSlot.{FieldSlot}
use Rattle.ioc_fields.specs.declared.record_type.RecordType.TheVariants as type
use Rattle.ioc_fields.specs.declared.row.Row.{Row}
use Rattle.ioc_fields.specs.Rows.{plain, passive}
use Rattle.ioc_fields.specs.Table.{row_of, own_row, mbbi_row, mbbo_row, output_row, multi_state_row}
use Rattle.ioc_fields.specs.Types.{reads_device}
use Rattle.ioc_fields.specs.Defaults.{zero_of, own_default}
use Rattle.ioc_dbcommon.specs.declared.body.Got.{Got}
use Rattle.ioc_dbcommon.specs.declared.body.Got.TheVariants as got
use Rattle.ioc_dbcommon.specs.Parts.{ulong_in, ushort_in, text_in, severity_in, severity_back}
use Rattle.ioc_dbcommon.specs.Raw.{state_constant}
use Rattle.ioc_record.specs.Values.{field_sort}
use Rattle.ioc_record.specs.ByRow.{can_put_by}
use Rattle.rec_state.specs.Bits.{shifted_left, shifted_right, made_mask}
use Rattle.rec_state.specs.Slotted.{slot_at, slotted, slotted-here, new_slot}
use Rattle.rec_state.specs.StateRows.{state_row, state_input_row, state_output_row, IsValueBy}
use Rattle.rec_state.specs.States.{StateRules}
use Rattle.rec_state.specs.StatesLaws.{IsLawfulField, IsLawfulStates}
use Rattle.rec_state.specs.declared.sixteen_states.SixteenStates.{SixteenStates}

-- ---- Fields

unfoldable pub new_sixteen : SixteenStates
new_sixteen = record {
  shift = 0;
  bits = 0;
  values = replicate 16 0;
  texts = replicate 16 [];
  severities = replicate 16 NoAlarm;
  unknown_severity = NoAlarm;
}

unfoldable pub sixteen_get : SixteenStates → OwnField → Option Value
sixteen_get t Shft = Some (value.UShort t.shift)
sixteen_get t Nobt = Some (value.UShort t.bits)
sixteen_get t Unsv = Some (value.Enum (severity_number t.unknown_severity))
sixteen_get t (StateValue state) = Some (value.ULong (slot_at 0 t.values state))
sixteen_get t (StateText state) = Some (value.Text (slot_at [] t.texts state))
sixteen_get t (StateSeverity state) = Some (value.Enum (severity_number (slot_at NoAlarm t.severities state)))
sixteen_get t _ = None

-- The list with an item set, if there is one.
abbrev pub slotted_if : {X : Type 0} → X → List X → FieldSlot → Option X → List X
slotted_if none items slot None = items
slotted_if none items slot (Some item) = slotted none items slot item

-- The states with a converted value stored. A value of another kind changes nothing.
unfoldable pub sixteen_stored : SixteenStates → OwnField → Value → SixteenStates
sixteen_stored t Shft v = record t { shift = unwrap_or (ushort_in v) t.shift }
sixteen_stored t Nobt v = record t { bits = unwrap_or (ushort_in v) t.bits }
sixteen_stored t Unsv v = record t { unknown_severity = unwrap_or (severity_in v) t.unknown_severity }
sixteen_stored t (StateValue state) v = record t { values = slotted_if 0 t.values state (ulong_in v) }
sixteen_stored t (StateText state) v = record t { texts = slotted_if [] t.texts state (text_in v) }
sixteen_stored t (StateSeverity state) v = record t { severities = slotted_if NoAlarm t.severities state (severity_in v) }
sixteen_stored t _ v = t

-- The rows of these fields.
unfoldable pub sixteen_row : OwnField → Option Row
sixteen_row Shft = Some (plain (Number Bits))
sixteen_row Nobt = Some (plain (Number Bits))
sixteen_row Unsv = Some (passive (Menu menu.Severity))
sixteen_row (StateValue state) = Some (passive (Number ULong))
sixteen_row (StateText state) = Some (passive Text)
sixteen_row (StateSeverity state) = Some (passive (Menu menu.Severity))
sixteen_row _ = None

-- ---- VAL and RVAL

-- Whether one of the values isn't 0, which defines states.
abbrev pub has_value : List ℕ → Bool
has_value values = list_any (λ v. not (v == 0)) values

abbrev pub has_text : List (List ℕ) → Bool
has_text texts = list_any (λ text. not (length text == 0)) texts

unfoldable pub are_defined : SixteenStates → Bool
are_defined t = has_value t.values || has_text t.texts

-- The severity of the state, or UNSV if VAL is above 15.
abbrev pub sixteen_severity : SixteenStates → ℕ → Severity
sixteen_severity t value = unwrap_or (slice_get t.severities value) t.unknown_severity

-- The first state with this value, or 65535 if none has it.
abbrev pub state_valued : List ℕ → ℕ → ℕ
state_valued values number = unwrap_or (position (λ v. v == number) values) 65535

-- The VAL for an RVAL, which is shifted right by SHFT. If states are defined it is the first one
-- with that value, or 65535 if none has it; else it is the 16 low bits.
unfoldable pub sixteen_state_of : SixteenStates → ℕ → ℕ
sixteen_state_of t raw = let number = shifted_right raw t.shift in if are_defined t then state_valued t.values number else number % 2 ^ 16

-- The number of the state: its value if states are defined, or none if VAL is above 15; else VAL.
unfoldable pub number_of : SixteenStates → ℕ → Option ℕ
number_of t value = if are_defined t then slice_get t.values value else Some value

-- RVAL, which is the number of the state, shifted left by SHFT and truncated to 32 bits. It stays
-- the same if there is no such state.
unfoldable pub sixteen_raw_of : SixteenStates → ℕ → ℕ → Option ℕ
sixteen_raw_of t mask value = option_map (λ number. shifted_left number t.shift) (number_of t value)

-- An output sets RVAL unless UDF is set, and not after a fault.
abbrev pub sixteen_converts : Got → ℕ → Bool
sixteen_converts got.Fault undefined = false
sixteen_converts _ undefined = undefined == 0

-- MASK, which a load sets from NOBT and SHFT if it is 0.
abbrev pub sixteen_loaded_mask : SixteenStates → ℕ → ℕ
sixteen_loaded_mask t mask = if mask == 0 then made_mask t.bits t.shift else mask

-- The rules of sixteen states. Each VAL has the alarms of states. The bits in MASK are read and
-- driven, none if MASK is 0.
abbrev pub sixteen_states : StateRules SixteenStates
sixteen_states = record {
  new = new_sixteen;
  get = sixteen_get;
  stored = sixteen_stored;
  row = sixteen_row;
  texts = λ t. t.texts;
  severity = sixteen_severity;
  has_alarms = λ value. true;
  masked = λ mask raw. bit_and raw mask;
  state_of = sixteen_state_of;
  raw_of = sixteen_raw_of;
  converts = sixteen_converts;
  driven = λ mask raw. bit_and raw mask;
  loaded_mask = sixteen_loaded_mask;
  constant = state_constant;
  input_type = type.Mbbi;
  output_type = type.Mbbo;
}

-- ---- Laws

severity_back_at : (t : SixteenStates) (s : FieldSlot) (n : ℕ) → n < 4
    → severity_number (slot_at NoAlarm (slotted_if NoAlarm t.severities s (slice_get severities n)) s) ≡ n
severity_back_at t s zero h = ap severity_number (slotted-here NoAlarm t.severities s NoAlarm)
severity_back_at t s (suc zero) h = ap severity_number (slotted-here NoAlarm t.severities s Minor)
severity_back_at t s (suc (suc zero)) h = ap severity_number (slotted-here NoAlarm t.severities s Major)
severity_back_at t s (suc (suc (suc zero))) h = ap severity_number (slotted-here NoAlarm t.severities s Invalid)
severity_back_at t s (suc (suc (suc (suc n)))) h = absurd (omega arith)

sixteen_reads_back : (t : SixteenStates) (texts : List (List ℕ)) (f : OwnField) (v : Value) → can_put_by (sixteen_row f)
    → IsValueBy texts (sixteen_row f) v → sixteen_get (sixteen_stored t f v) f ≡ Some v
unfolding sixteen_row sixteen_get sixteen_stored field_sort
sixteen_reads_back t texts Shft v can is = rw is.1 refl
sixteen_reads_back t texts Nobt v can is = rw is.1 refl
sixteen_reads_back t texts Unsv v can is = rw is.1 (ap (λ n. Some (value.Enum n)) (severity_back is.0 t.unknown_severity is.2))
sixteen_reads_back t texts (StateValue s) v can is = rw is.1 (ap (λ n. Some (value.ULong n)) (slotted-here 0 t.values s is.0))
sixteen_reads_back t texts (StateText s) v can is = rw is.1 (ap (λ x. Some (value.Text x)) (slotted-here [] t.texts s is.0))
sixteen_reads_back t texts (StateSeverity s) v can is = rw is.1 (ap (λ n. Some (value.Enum n)) (severity_back_at t s is.0 is.2))
sixteen_reads_back t texts _ v can is = cc

sixteen_fields : (f : OwnField) → IsLawfulField sixteen_states f
unfolding own_row row_of own_default mbbi_row mbbo_row output_row multi_state_row state_input_row state_output_row state_row sixteen_row sixteen_get new_sixteen zero_of
sixteen_fields (StateValue s) = record { default = ap (λ n. Some (value.ULong n)) (new_slot 0 s); no_link = refl; input_row = refl; output_row = refl; input_default = refl; output_default = refl }
sixteen_fields (StateText s) = record { default = ap (λ x. Some (value.Text x)) (new_slot [] s); no_link = refl; input_row = refl; output_row = refl; input_default = refl; output_default = refl }
sixteen_fields (StateSeverity s) = record { default = ap (λ x. Some (value.Enum (severity_number x))) (new_slot NoAlarm s); no_link = refl; input_row = refl; output_row = refl; input_default = refl; output_default = refl }
sixteen_fields _ = record { default = refl; no_link = refl; input_row = refl; output_row = refl; input_default = refl; output_default = refl }

pub sixteen_lawful : IsLawfulStates sixteen_states
unfolding reads_device sixteen_get
sixteen_lawful = record { reads_back = sixteen_reads_back; fields = sixteen_fields; no_input = refl; no_output = refl; no_desired = refl; writes = refl }
