-- The type stringout. Record Reference Manual, "String Output Record".
use Rattle.std.specs.Prelude.{[], if◌then◌else◌, Option, Some, None, unwrap_or}
use Rattle.ioc_values.specs.declared.value.Value.{Value}
use Rattle.ioc_values.specs.declared.value.Value.TheVariants as value
use Rattle.ioc_links.specs.declared.link.Link.{Link}
use Rattle.ioc_fields.specs.declared.field_no.OwnField.{OwnField}
use Rattle.ioc_fields.specs.declared.field_no.OwnField.TheVariants.{Val, Ivov}
use Rattle.ioc_fields.specs.declared.record_type.RecordType.TheVariants as type
use Rattle.ioc_dbcommon.specs.declared.body.Got.{Got}
use Rattle.ioc_dbcommon.specs.declared.body.Got.TheVariants as got
use Rattle.ioc_dbcommon.specs.declared.body.InputKind.TheVariants as input
use Rattle.ioc_dbcommon.specs.declared.body.Output.{Output}
use Rattle.ioc_dbcommon.specs.declared.body.Output.TheVariants.{NoOutput}
use Rattle.ioc_dbcommon.specs.Condition.{undefined_tested}
use Rattle.ioc_dbcommon.specs.Parts.{text_in}
use Rattle.ioc_dbcommon.specs.Drive.{new_drive, drive_link, drive_with_link, drive_get, drive_stored, drive_begin, sets, drives, written}
use Rattle.ioc_record.specs.BodyRules.{BodyRules, BodyState, dol_constant_kind}
use Rattle.rec_text.specs.declared.stringout.Stringout.{Stringout}
use Rattle.rec_text.specs.TextInput.{constant_text}

-- ---- Fields

unfoldable pub new_stringout : Stringout
new_stringout = record { value = []; drive = new_drive; invalid_value = [] }

unfoldable pub stringout_get : Stringout → OwnField → Option Value
stringout_get b Val = Some (value.Text b.value)
stringout_get b Ivov = Some (value.Text b.invalid_value)
stringout_get b field = drive_get b.drive field

-- The fields with VAL set to a text, which clears UDF.
abbrev pub value_set : BodyState Stringout → Value → BodyState Stringout
value_set h v = record { body = record h.body { value = unwrap_or (text_in v) h.body.value }; condition = record h.condition { undefined = 0 } }

unfoldable pub stringout_stored : BodyState Stringout → OwnField → Value → BodyState Stringout
stringout_stored h Val v = value_set h v
stringout_stored h Ivov v = record h { body = record h.body { invalid_value = unwrap_or (text_in v) h.body.invalid_value } }
stringout_stored h field v = record h { body = record h.body { drive = drive_stored h.body.drive field v } }

-- ---- The body

-- The fields after the input. A text is stored in VAL and clears UDF.
abbrev pub came : BodyState Stringout → Got → BodyState Stringout
came h (got.Value v) = value_set h v
came h _ = h

-- The fields after the input, with the alarm of an undefined value tested.
unfoldable pub worked : BodyState Stringout → Got → BodyState Stringout
worked h got = let c = came h got in record c { condition = undefined_tested c.condition }

-- The fields with VAL set to IVOV, if IVOA says so.
unfoldable pub settled : BodyState Stringout → BodyState Stringout
settled h = if sets h.body.drive.on_invalid h.condition then record h { body = record h.body { value = h.body.invalid_value } } else h

unfoldable pub stringout_taken : BodyState Stringout → Got → BodyState Stringout
stringout_taken h got = settled (worked h got)

abbrev pub driven : BodyState Stringout → Output
driven h = if drives h.body.drive.on_invalid h.condition then written h.body.drive.output (value.Text h.body.value) else NoOutput

unfoldable pub stringout_output : BodyState Stringout → Got → Output
stringout_output h got = driven (stringout_taken h got)

-- ---- The load

abbrev pub value_if : BodyState Stringout → Option Value → BodyState Stringout
value_if h None = h
value_if h (Some v) = value_set h v

-- The fields with a constant DOL put into VAL as its text.
abbrev pub constant_put : BodyState Stringout → Link → BodyState Stringout
constant_put h link = value_if h (constant_text link)

unfoldable pub stringout_loaded : BodyState Stringout → BodyState Stringout
stringout_loaded h = constant_put h h.body.drive.desired.link

-- ---- All of it

abbrev pub stringout : BodyRules Stringout
stringout = record {
  missing = new_stringout;
  record_type = λ b. type.Stringout;
  link = λ b. drive_link b.drive.output b.drive.desired;
  with_link = λ b field link. record b { drive = drive_with_link b.drive field link };
  calculation = λ b field. None;
  with_calculation = λ b field c. b;
  states = λ b. [];
  get = stringout_get;
  stored = stringout_stored;
  begin = λ b. drive_begin b.drive.mode b.drive.desired;
  inputs = λ b got. 0;
  input_kind = λ h. input.Text;
  taken = stringout_taken;
  output = stringout_output;
  posted = λ b changed. b;
  constant_kind = λ h. dol_constant_kind input.Text;
  loaded = stringout_loaded;
}
