-- The type event. Record Reference Manual, "Event Record".
use Rattle.ioc_fields.specs.declared.field_no.OwnField.TheVariants.{Val}
use Rattle.ioc_fields.specs.declared.record_type.RecordType.TheVariants as type
use Rattle.ioc_dbcommon.specs.declared.body.Got.{Got}
use Rattle.ioc_dbcommon.specs.declared.body.Got.TheVariants as got
use Rattle.ioc_dbcommon.specs.declared.body.Output.{Output}
use Rattle.ioc_dbcommon.specs.declared.body.Output.TheVariants.{PostEvent}
use Rattle.ioc_record.specs.BodyRules.{BodyRules, BodyState}
use Rattle.rec_text.specs.declared.text_input.TextInput.{TextInput}
use Rattle.rec_text.specs.TextInput.{text_input_stored}
use Rattle.rec_text.specs.declared.text_body.TextBody.{TextBody}
use Rattle.rec_text.specs.TextBody.{TextRules, text_body}
use Rattle.rec_flow.specs.declared.event.Posted.{Posted}

-- The fields after the input. A text is stored in VAL, and UDF becomes 0, also without a text.
-- After a fault everything stays the same.
unfoldable pub event_taken : BodyState TextInput → Got → BodyState TextInput
event_taken h (got.Value v) = text_input_stored h Val v
event_taken h got.Nothing = record h { condition = record h.condition { undefined = 0 } }
event_taken h got.Fault = h

-- Posts the event that VAL names.
abbrev pub event_output : TextInput → Output
event_output t = PostEvent t.value

-- A text that names the event that is posted.
abbrev pub posted : TextRules Posted
posted = record { kind = record {}; record_type = type.Event; taken = event_taken; output = event_output }

-- The rules of event.
abbrev pub event : BodyRules (TextBody Posted)
event = text_body posted
