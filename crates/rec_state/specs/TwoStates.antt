-- The two states of bi and bo. Record Reference Manual, "Binary Input Record" and "Binary Output
-- Record".
use Rattle.std.proofs.Common.{◌≡◌, ℕ, ℤ, pos, negsuc, Bool, true, false, List, [], ◌∷◌, Option, Some, None, refl, ap}
use Rattle.std.specs.Prelude.{◌==◌, nat_lt, bit_and, if◌then◌else◌, slice_get, unwrap_or}
use Rattle.ioc_values.specs.declared.value.Value.{Value}
use Rattle.ioc_values.specs.declared.value.Value.TheVariants as value
use Rattle.ioc_menus.specs.declared.severity.Severity.TheVariants.{NoAlarm}
use Rattle.ioc_menus.specs.declared.menu.Menu.TheVariants as menu
use Rattle.ioc_menus.specs.Numbers.{severity_number}
use Rattle.ioc_fields.specs.declared.field_kind.FieldKind.TheVariants.{Text, Menu}
use Rattle.ioc_fields.specs.declared.field_no.OwnField.{OwnField}
use Rattle.ioc_fields.specs.declared.field_no.OwnField.TheVariants.{Inp, Znam, Onam, Zsv, Osv}
use Rattle.ioc_fields.specs.declared.record_type.RecordType.TheVariants as type
use Rattle.ioc_fields.specs.declared.row.Row.{Row}
use Rattle.ioc_fields.specs.Rows.{passive}
use Rattle.ioc_fields.specs.Table.{row_of, own_row, bi_row, bo_row, output_row, two_state_row}
use Rattle.ioc_fields.specs.Types.{reads_device}
use Rattle.ioc_fields.specs.Defaults.{zero_of, own_default}
use Rattle.ioc_dbcommon.specs.Parts.{text_in, severity_in, severity_back}
use Rattle.ioc_record.specs.Values.{field_sort}
use Rattle.ioc_record.specs.ByRow.{can_put_by}
use Rattle.rec_state.specs.StateRows.{state_row, state_input_row, state_output_row, IsValueBy}
use Rattle.rec_state.specs.States.{StateRules}
use Rattle.rec_state.specs.StatesLaws.{IsLawfulField, IsLawfulStates}
use Rattle.rec_state.specs.declared.two_states.TwoStates.{TwoStates}

-- ---- Fields

unfoldable pub new_two : TwoStates
new_two = record { names = [] ∷ [] ∷ []; zero_severity = NoAlarm; one_severity = NoAlarm }

-- The name of a state.
abbrev pub name_at : List (List ℕ) → ℕ → List ℕ
name_at names n = unwrap_or (slice_get names n) []

unfoldable pub two_get : TwoStates → OwnField → Option Value
two_get t Znam = Some (value.Text (name_at t.names 0))
two_get t Onam = Some (value.Text (name_at t.names 1))
two_get t Zsv = Some (value.Enum (severity_number t.zero_severity))
two_get t Osv = Some (value.Enum (severity_number t.one_severity))
two_get t _ = None

-- The states with a converted value stored. A value of another kind changes nothing.
unfoldable pub two_stored : TwoStates → OwnField → Value → TwoStates
two_stored t Znam v = record t { names = unwrap_or (text_in v) (name_at t.names 0) ∷ name_at t.names 1 ∷ [] }
two_stored t Onam v = record t { names = name_at t.names 0 ∷ unwrap_or (text_in v) (name_at t.names 1) ∷ [] }
two_stored t Zsv v = record t { zero_severity = unwrap_or (severity_in v) t.zero_severity }
two_stored t Osv v = record t { one_severity = unwrap_or (severity_in v) t.one_severity }
two_stored t _ v = t

-- The rows of these fields.
unfoldable pub two_row : OwnField → Option Row
two_row Znam = Some (passive Text)
two_row Onam = Some (passive Text)
two_row Zsv = Some (passive (Menu menu.Severity))
two_row Osv = Some (passive (Menu menu.Severity))
two_row _ = None

-- ---- VAL and RVAL

-- RVAL, which is 0 if VAL is 0, else MASK if that isn't 0, else VAL.
abbrev pub two_raw_of : TwoStates → ℕ → ℕ → Option ℕ
two_raw_of t mask value = Some (if value == 0 then 0 else if mask == 0 then value else mask)

abbrev pub is_zero : ℤ → Bool
is_zero (pos n) = n == 0
is_zero (negsuc n) = false

-- A constant DOL as VAL: 0 for 0, else 1.
abbrev pub two_constant : ℤ → Option ℕ
two_constant z = Some (if is_zero z then 0 else 1)

-- The rules of two states. An input whose VAL is above 1 has no alarms of states. An output sets
-- RVAL after each input, and drives all of its bits. A load leaves MASK alone.
abbrev pub two_states : StateRules TwoStates
two_states = record {
  new = new_two;
  get = two_get;
  stored = two_stored;
  row = two_row;
  texts = λ t. t.names;
  -- ZSV if VAL is 0, else OSV.
  severity = λ t value. if value == 0 then t.zero_severity else t.one_severity;
  has_alarms = λ value. nat_lt value 2;
  -- The bits of a raw input that are in MASK, if MASK isn't 0. VAL is 0 if RVAL is 0, else 1.
  masked = λ mask raw. if mask == 0 then raw else bit_and raw mask;
  state_of = λ t raw. if raw == 0 then 0 else 1;
  raw_of = two_raw_of;
  converts = λ got undefined. true;
  driven = λ mask raw. raw;
  loaded_mask = λ t mask. mask;
  constant = two_constant;
  input_type = type.Bi;
  output_type = type.Bo;
}

-- ---- Laws

two_reads_back : (t : TwoStates) (texts : List (List ℕ)) (f : OwnField) (v : Value) → can_put_by (two_row f)
    → IsValueBy texts (two_row f) v → two_get (two_stored t f v) f ≡ Some v
unfolding two_row two_get two_stored field_sort
two_reads_back t texts Znam v can is = rw is.1 refl
two_reads_back t texts Onam v can is = rw is.1 refl
two_reads_back t texts Zsv v can is = rw is.1 (ap (λ n. Some (value.Enum n)) (severity_back is.0 t.zero_severity is.2))
two_reads_back t texts Osv v can is = rw is.1 (ap (λ n. Some (value.Enum n)) (severity_back is.0 t.one_severity is.2))
two_reads_back t texts _ v can is = cc

two_fields : (f : OwnField) → IsLawfulField two_states f
unfolding own_row row_of own_default bi_row bo_row output_row two_state_row state_input_row state_output_row state_row two_row two_get new_two zero_of
two_fields Inp = record { default = refl; no_link = refl; input_row = refl; output_row = refl; input_default = refl; output_default = refl }
two_fields _ = record { default = refl; no_link = refl; input_row = refl; output_row = refl; input_default = refl; output_default = refl }

pub two_lawful : IsLawfulStates two_states
unfolding reads_device two_get
two_lawful = record { reads_back = two_reads_back; fields = two_fields; no_input = refl; no_output = refl; no_desired = refl; writes = refl }
