-- The line of an entry. Its words are separated by tabs, and a line break ends it.
--
-- Application Developer's Guide, "Runtime Database Access": dbGetField, dbPutField, dbProcess,
-- dbPutNotify, dbNotifyCancel.
use Rattle.std.specs.Prelude.{ℕ, Bool, true, false, List, [], ◌∷◌, ◌++◌, codes, decimal, length, pos, Result, Ok, Err}
use Rattle.std.specs.List.{flat_map}
use Rattle.std.specs.Fmt.{signed_decimal}
use Rattle.ioc_values.specs.declared.error.IocError.{IocError}
use Rattle.ioc_values.specs.declared.value.Value.{Value}
use Rattle.ioc_values.specs.declared.value.Value.TheVariants.{Long, ULong, Short, UShort, UChar, Enum, Int64, Double, Text}
use Rattle.ioc_values.specs.declared.value.Finished.{Finished}
use Rattle.ioc_values.specs.declared.value.Finished.TheVariants as finished
use Rattle.ioc_values.specs.declared.input.Input.{Input}
use Rattle.ioc_values.specs.declared.input.Input.TheVariants as input
use Rattle.ioc_values.specs.Words.{refusal_words}
use Rattle.ioc_device.specs.declared.Answer.{Answer}
use Rattle.ioc_device.specs.declared.Answer.TheVariants as answer
use Rattle.ioc_fields.specs.Names.{name_of}
use Rattle.ioc_links.specs.declared.link.Link.{Link}
use Rattle.ioc_links.specs.declared.link.Link.TheVariants.{Empty, Constant, Real, Device, Database}
use Rattle.ioc_dbcommon.specs.declared.link_field.LinkField.{LinkField}
use Rattle.ioc_dbcommon.specs.declared.link_field.Lead.{Lead}
use Rattle.ioc_dbcommon.specs.declared.link_field.Lead.TheVariants.{Nowhere, Field, OwnDevice}
use Rattle.ioc_events.specs.declared.event.Event.{Event}
use Rattle.ioc_events.specs.declared.event.Event.TheVariants.{Process, Put, Complete, Notify, Cancel}
use Rattle.ioc_events.specs.declared.event.Call.{Call}
use Rattle.ioc_events.specs.declared.event.Call.TheVariants as call
use Rattle.ioc_events.specs.declared.reply.Reply.{Reply}
use Rattle.ioc_events.specs.declared.reply.Reply.TheVariants as reply
use Rattle.ioc_journal_file.specs.declared.line.Mark.{Mark}
use Rattle.ioc_journal_file.specs.Texts.{quoted}
use Rattle.ioc_journal_file.specs.Bits.{bits_text}
use Rattle.ioc_journal_file.specs.Lists.{outcome_word, mode_word}

-- A value: its kind, and its number, its bits or its text.
unfoldable pub value_text : Value → List ℕ
value_text (Long z) = codes "long" ++ 9 ∷ signed_decimal z
value_text (ULong n) = codes "ulong" ++ 9 ∷ signed_decimal (pos n)
value_text (Short z) = codes "short" ++ 9 ∷ signed_decimal z
value_text (UShort n) = codes "ushort" ++ 9 ∷ signed_decimal (pos n)
value_text (UChar n) = codes "uchar" ++ 9 ∷ signed_decimal (pos n)
value_text (Enum n) = codes "enum" ++ 9 ∷ signed_decimal (pos n)
value_text (Int64 z) = codes "int64" ++ 9 ∷ signed_decimal z
value_text (Double x) = codes "double" ++ 9 ∷ bits_text x
value_text (Text text) = codes "text" ++ 9 ∷ quoted text

-- The value of a put. `longtext` is the beginning of a text of more than 39 bytes.
unfoldable pub input_text : Input → List ℕ
input_text (input.Value value) = value_text value
input_text (input.LongText text) = codes "longtext" ++ 9 ∷ quoted text

-- What a device returned in the end.
unfoldable pub finished_text : Finished → List ℕ
finished_text (finished.Done value) = value_text value
finished_text finished.Fault = codes "fault"

-- The answer of a device.
unfoldable pub answer_text : Answer → List ℕ
answer_text (answer.Done value) = value_text value
answer_text answer.Fault = codes "fault"
answer_text answer.Later = codes "later"

-- How many answers there are, and the answers.
unfoldable pub answers_text : List Answer → List ℕ
answers_text answers = decimal (length answers) ++ flat_map (λ answer. 9 ∷ answer_text answer) answers

-- The reply of an event.
unfoldable pub reply_text : Reply → List ℕ
reply_text reply.Plain = codes "done"
reply_text (reply.Outcome outcome) = outcome_word outcome
reply_text (reply.Notify number) = codes "notify" ++ 9 ∷ decimal number
reply_text (reply.Refused error) = refusal_words error

-- The reply of a get: the text in quotation marks, or a refusal.
unfoldable pub shown_text : Result (List ℕ) IocError → List ℕ
shown_text (Ok text) = quoted text
shown_text (Err error) = refusal_words error

-- The reply of a link change.
unfoldable pub changed_text : {Y : Type 0} → Result Y IocError → List ℕ
changed_text (Ok _) = codes "done"
changed_text (Err error) = refusal_words error

unfoldable pub live_word : Bool → List ℕ
live_word true = codes "yes"
live_word false = codes "no"

abbrev pub process_word : Bool → List ℕ
process_word true = codes "PP"
process_word false = codes "NPP"

-- A link as it was written.
unfoldable pub link_text : Link → List ℕ
link_text Empty = codes "empty"
link_text (Constant z) = codes "constant" ++ 9 ∷ signed_decimal z
link_text (Real text) = codes "real" ++ 9 ∷ quoted text
link_text (Device text) = codes "device" ++ 9 ∷ quoted text
link_text (Database target flags) =
    codes "database" ++ 9 ∷ quoted target.record_name ++ 9 ∷ quoted target.field ++ 9 ∷ process_word flags.process_passive ++ 9 ∷ mode_word flags.mode

-- Where a link leads.
unfoldable pub lead_text : Lead → List ℕ
lead_text Nowhere = codes "nowhere"
lead_text OwnDevice = codes "own"
lead_text (Field to) = codes "to" ++ 9 ∷ decimal to.number ++ 9 ∷ name_of to.field

abbrev pub link_field_text : LinkField → List ℕ
link_field_text field = link_text field.link ++ 9 ∷ lead_text field.lead

-- An event with its arguments.
unfoldable pub event_text : Event → List ℕ
event_text (Process record_number) = codes "process" ++ 9 ∷ decimal record_number
event_text (Put record_number field value) = codes "put" ++ 9 ∷ decimal record_number ++ 9 ∷ name_of field ++ 9 ∷ input_text value
event_text (Complete record_number wait finished) = codes "complete" ++ 9 ∷ decimal record_number ++ 9 ∷ decimal wait ++ 9 ∷ finished_text finished
event_text (Notify record_number notification field value) =
    codes "notify" ++ 9 ∷ decimal record_number ++ 9 ∷ decimal notification ++ 9 ∷ name_of field ++ 9 ∷ input_text value
event_text (Cancel notification) = codes "cancel" ++ 9 ∷ decimal notification

-- A call with its arguments and its reply.
unfoldable pub call_text : Call → List ℕ
call_text (call.Event event reply) = event_text event ++ 9 ∷ reply_text reply
call_text (call.Get record_number field text) = codes "get" ++ 9 ∷ decimal record_number ++ 9 ∷ name_of field ++ 9 ∷ shown_text text
call_text (call.IsLive number live) = codes "live" ++ 9 ∷ decimal number ++ 9 ∷ live_word live
call_text (call.Link record_number field link result) =
    codes "link" ++ 9 ∷ decimal record_number ++ 9 ∷ name_of field ++ 9 ∷ link_field_text link ++ 9 ∷ changed_text result
call_text (call.Post name count) = codes "post" ++ 9 ∷ quoted name ++ 9 ∷ decimal count
call_text (call.Interrupt device count) = codes "interrupt" ++ 9 ∷ quoted device ++ 9 ∷ decimal count

-- Which entry it is: its place in the journal, its desk, the number of the call among those of the
-- desk, and its time stamp.
unfoldable pub mark_text : Mark → List ℕ
mark_text mark = decimal mark.place ++ 9 ∷ decimal mark.desk ++ 9 ∷ decimal mark.call ++ 9 ∷ decimal mark.moment

-- The line of an entry: which it is, the call, and the answers of devices.
unfoldable pub line_of : Mark → Call → List Answer → List ℕ
line_of mark call answers = mark_text mark ++ 9 ∷ call_text call ++ 9 ∷ answers_text answers ++ 10 ∷ []
