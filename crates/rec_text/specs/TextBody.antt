-- The types stringin and event. Record Reference Manual, "String Input Record" and "Event Record".
-- `k` has what tells them apart.
use Rattle.std.specs.Prelude.{[], None}
use Rattle.ioc_fields.specs.declared.record_type.RecordType.{RecordType}
use Rattle.ioc_dbcommon.specs.declared.body.Got.{Got}
use Rattle.ioc_dbcommon.specs.declared.body.InputKind.TheVariants as input
use Rattle.ioc_dbcommon.specs.declared.body.Output.{Output}
use Rattle.ioc_dbcommon.specs.Source.{source_link, source_with_link, source_begin}
use Rattle.ioc_record.specs.BodyRules.{BodyRules, BodyState, inp_constant_kind}
use Rattle.rec_text.specs.declared.text_input.TextInput.{TextInput}
use Rattle.rec_text.specs.TextInput.{new_text_input, text_input_get, text_input_stored, constant_put}
use Rattle.rec_text.specs.declared.text_body.TextBody.{TextBody}

-- What tells stringin from event.
pub record TextRules (K : Type 0) : Type 0 where
  -- The value that stands for the type, and the type.
  pub kind : K
  pub record_type : RecordType
  -- The fields after the input, with its alarms raised, and what is output then.
  pub taken : BodyState TextInput → Got → BodyState TextInput
  pub output : TextInput → Output

-- ---- Fields

unfoldable pub new_text_body : {K : Type 0} → TextRules K → TextBody K
new_text_body k = record { text = new_text_input; kind = k.kind }

-- The text input with the condition, and the body with these put back.
abbrev pub inner : {K : Type 0} → BodyState (TextBody K) → BodyState TextInput
inner h = record { body = h.body.text; condition = h.condition }

abbrev pub outer : {K : Type 0} → BodyState (TextBody K) → BodyState TextInput → BodyState (TextBody K)
outer h t = record { body = record h.body { text = t.body }; condition = t.condition }

-- ---- All of it

abbrev pub text_body : {K : Type 0} → TextRules K → BodyRules (TextBody K)
text_body k = record {
  missing = new_text_body k;
  record_type = λ b. k.record_type;
  link = λ b. source_link b.text.source.input;
  with_link = λ b field link. record b { text = record b.text { source = source_with_link b.text.source field link } };
  calculation = λ b field. None;
  with_calculation = λ b field c. b;
  states = λ b. [];
  get = λ b. text_input_get b.text;
  stored = λ h field v. outer h (text_input_stored (inner h) field v);
  begin = λ b. source_begin b.text.source.input;
  inputs = λ b got. 0;
  input_kind = λ h. input.Text;
  taken = λ h got. outer h (k.taken (inner h) got);
  output = λ h got. k.output (k.taken (inner h) got).body;
  posted = λ b changed. b;
  constant_kind = λ h. inp_constant_kind input.Text;
  loaded = λ h. outer h (constant_put (inner h) h.body.text.source.input.link);
}
