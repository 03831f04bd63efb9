-- Reading the parts of a line.
use Rattle.std.specs.Prelude.{ℕ, zero, suc, ◌^◌, Bool, List, [], ◌∷◌, codes, take, ℤ, Option, Some, None, Result, Ok, Err, if◌then◌else◌}
use Rattle.ioc_values.specs.Number.{numeral, below, signed, within_i64}
use Rattle.ioc_values.specs.Conversion.{value_in}
use Rattle.ioc_values.specs.declared.error.IocError.{IocError}
use Rattle.ioc_values.specs.declared.kind.Range.{Range}
use Rattle.ioc_values.specs.declared.kind.Range.TheVariants as range
use Rattle.ioc_values.specs.declared.value.Value.{Value}
use Rattle.ioc_values.specs.declared.value.Value.TheVariants.{Double, Text}
use Rattle.ioc_values.specs.declared.value.Finished.{Finished}
use Rattle.ioc_values.specs.declared.value.Finished.TheVariants as finished
use Rattle.ioc_values.specs.declared.input.Input.{Input}
use Rattle.ioc_values.specs.declared.input.Input.TheVariants as input
use Rattle.ioc_device.specs.declared.Answer.{Answer}
use Rattle.ioc_device.specs.declared.Answer.TheVariants as answer
use Rattle.ioc_fields.specs.declared.field_no.FieldNo.{FieldNo}
use Rattle.ioc_ledger.specs.declared.outcome.Outcome.{Outcome}
use Rattle.ioc_links.specs.declared.link.Link.{Link}
use Rattle.ioc_links.specs.declared.link.Link.TheVariants.{Empty, Constant, Real, Device, Database}
use Rattle.ioc_dbcommon.specs.declared.link_field.LinkField.{LinkField}
use Rattle.ioc_dbcommon.specs.declared.link_field.Lead.{Lead}
use Rattle.ioc_dbcommon.specs.declared.link_field.Lead.TheVariants.{Nowhere, Field, OwnDevice}
use Rattle.ioc_events.specs.declared.reply.Reply.{Reply}
use Rattle.ioc_events.specs.declared.reply.Reply.TheVariants as reply
use Rattle.ioc_journal_file.specs.declared.texts.Escape.TheVariants.{No}
use Rattle.ioc_journal_file.specs.declared.kinds.ValueKind.{ValueKind}
use Rattle.ioc_journal_file.specs.declared.kinds.ValueKind.TheVariants as kind
use Rattle.ioc_journal_file.specs.Words.{word_of, after_word, is_word}
use Rattle.ioc_journal_file.specs.Texts.{unescaped}
use Rattle.ioc_journal_file.specs.Bits.{bits_double}
use Rattle.ioc_journal_file.specs.Lists.{field_of, error_of, outcome_of, mode_of, kind_of}
use Rattle.ioc_journal_file.specs.Reading.{◌>>=◌}

-- A number below 2^64.
unfoldable pub number_at : List ℕ → Option (ℕ × List ℕ)
number_at bytes = do
  n ← below (2 ^ 64) (numeral 10 (word_of bytes))
  Some (n, after_word bytes)

-- A number from -2^63 to 2^63 - 1.
unfoldable pub integer_at : List ℕ → Option (ℤ × List ℕ)
integer_at bytes = do
  z ← within_i64 (signed (word_of bytes))
  Some (z, after_word bytes)

-- A text, cut after as many bytes as are given.
unfoldable pub text_at : ℕ → List ℕ → List ℕ × List ℕ
text_at limit bytes = (take limit (unescaped No (word_of bytes)), after_word bytes)

unfoldable pub field_at : List ℕ → Option (FieldNo × List ℕ)
field_at bytes = do
  field ← field_of (word_of bytes)
  Some (field, after_word bytes)

-- A number as a value of the range.
unfoldable pub number_in : Range → List ℕ → Option (Value × List ℕ)
number_in range bytes = do
  z ← integer_at bytes
  value ← value_in range z.0
  Some (value, z.1)

-- A double, by its bits.
unfoldable pub double_at : List ℕ → Option (Value × List ℕ)
double_at bytes = do
  x ← bits_double (word_of bytes)
  Some (Double x, after_word bytes)

-- A value of the kind.
unfoldable pub value_by : ValueKind → List ℕ → Option (Value × List ℕ)
value_by kind.Long bytes = number_in range.Long bytes
value_by kind.ULong bytes = number_in range.ULong bytes
value_by kind.Short bytes = number_in range.Short bytes
value_by kind.UShort bytes = number_in range.UShort bytes
value_by kind.UChar bytes = number_in range.UChar bytes
value_by kind.Enum bytes = number_in range.Enum bytes
value_by kind.Int64 bytes = number_in range.Int64 bytes
value_by kind.Double bytes = double_at bytes
value_by kind.Text bytes = Some (Text (text_at 39 bytes).0, (text_at 39 bytes).1)

unfoldable pub value_at : List ℕ → Option (Value × List ℕ)
value_at bytes = do
  kind ← kind_of (word_of bytes)
  value_by kind (after_word bytes)

unfoldable pub value_input_at : List ℕ → Option (Input × List ℕ)
value_input_at bytes = do
  value ← value_at bytes
  Some (input.Value value.0, value.1)

unfoldable pub input_at : List ℕ → Option (Input × List ℕ)
input_at bytes =
    if is_word (word_of bytes) (codes "longtext") then Some (input.LongText (text_at 39 (after_word bytes)).0, (text_at 39 (after_word bytes)).1)
    else value_input_at bytes

unfoldable pub done_at : List ℕ → Option (Finished × List ℕ)
done_at bytes = do
  value ← value_at bytes
  Some (finished.Done value.0, value.1)

unfoldable pub finished_at : List ℕ → Option (Finished × List ℕ)
finished_at bytes = if is_word (word_of bytes) (codes "fault") then Some (finished.Fault, after_word bytes) else done_at bytes

unfoldable pub value_answer_at : List ℕ → Option (Answer × List ℕ)
value_answer_at bytes = do
  value ← value_at bytes
  Some (answer.Done value.0, value.1)

unfoldable pub answer_at : List ℕ → Option (Answer × List ℕ)
answer_at bytes =
    if is_word (word_of bytes) (codes "fault") then Some (answer.Fault, after_word bytes)
    else (if is_word (word_of bytes) (codes "later") then Some (answer.Later, after_word bytes) else value_answer_at bytes)

-- As many answers as are given.
unfoldable pub answers_of : ℕ → List ℕ → Option (List Answer)
answers_of zero bytes = Some []
answers_of (suc n) bytes = do
  first ← answer_at bytes
  others ← answers_of n first.1
  Some (first.0 ∷ others)

unfoldable pub refused_at : List ℕ → Option (Reply × List ℕ)
refused_at bytes = do
  error ← error_of (word_of bytes)
  Some (reply.Refused error, after_word bytes)

abbrev pub outcome_or : Option Outcome → List ℕ → Option (Reply × List ℕ)
outcome_or (Some outcome) bytes = Some (reply.Outcome outcome, after_word bytes)
outcome_or None bytes = refused_at bytes

unfoldable pub notified_at : List ℕ → Option (Reply × List ℕ)
notified_at bytes = do
  number ← number_at bytes
  Some (reply.Notify number.0, number.1)

unfoldable pub reply_at : List ℕ → Option (Reply × List ℕ)
reply_at bytes =
    if is_word (word_of bytes) (codes "done") then Some (reply.Plain, after_word bytes)
    else (if is_word (word_of bytes) (codes "notify") then notified_at (after_word bytes) else outcome_or (outcome_of (word_of bytes)) bytes)

abbrev pub shown_or : Option IocError → List ℕ → Result (List ℕ) IocError × List ℕ
shown_or (Some error) bytes = (Err error, after_word bytes)
shown_or None bytes = (Ok (text_at 120 bytes).0, (text_at 120 bytes).1)

-- The reply of a get.
unfoldable pub shown_at : List ℕ → Result (List ℕ) IocError × List ℕ
shown_at bytes = shown_or (error_of (word_of bytes)) bytes

abbrev pub changed_or : Option IocError → Result (Unit {0}) IocError
changed_or (Some error) = Err error
changed_or None = Ok tt

-- The reply of a link change.
unfoldable pub changed_at : List ℕ → Result (Unit {0}) IocError × List ℕ
changed_at bytes = (changed_or (error_of (word_of bytes)), after_word bytes)

unfoldable pub live_at : List ℕ → Bool × List ℕ
live_at bytes = (is_word (word_of bytes) (codes "yes"), after_word bytes)

-- A database link after its first word.
unfoldable pub database_at : List ℕ → Option (Link × List ℕ)
database_at bytes =
    let name = text_at 60 bytes in
    let field = text_at 8 name.1 in
    mode_of (word_of (after_word field.1)) >>= λ mode.
    Some (Database (record { record_name = name.0; field = field.0 }) (record { process_passive = is_word (word_of field.1) (codes "PP"); mode = mode }), after_word (after_word field.1))

unfoldable pub constant_at : List ℕ → Option (Link × List ℕ)
constant_at bytes = do
  z ← integer_at bytes
  Some (Constant z.0, z.1)

unfoldable pub link_at : List ℕ → Option (Link × List ℕ)
link_at bytes =
    if is_word (word_of bytes) (codes "empty") then Some (Empty, after_word bytes)
    else (if is_word (word_of bytes) (codes "constant") then constant_at (after_word bytes)
    else (if is_word (word_of bytes) (codes "real") then Some (Real (text_at 39 (after_word bytes)).0, (text_at 39 (after_word bytes)).1)
    else (if is_word (word_of bytes) (codes "device") then Some (Device (text_at 119 (after_word bytes)).0, (text_at 119 (after_word bytes)).1)
    else database_at (after_word bytes))))

unfoldable pub address_at : List ℕ → Option (Lead × List ℕ)
address_at bytes = do
  number ← number_at bytes
  field ← field_at number.1
  Some (Field (record { number = number.0; field = field.0 }), field.1)

unfoldable pub lead_at : List ℕ → Option (Lead × List ℕ)
lead_at bytes =
    if is_word (word_of bytes) (codes "nowhere") then Some (Nowhere, after_word bytes)
    else (if is_word (word_of bytes) (codes "own") then Some (OwnDevice, after_word bytes) else address_at (after_word bytes))

unfoldable pub link_field_at : List ℕ → Option (LinkField × List ℕ)
link_field_at bytes = do
  link ← link_at bytes
  lead ← lead_at link.1
  Some (record { link = link.0; lead = lead.0 }, lead.1)
