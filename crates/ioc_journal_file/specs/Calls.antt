-- Reading calls and whole lines.
use Rattle.std.specs.Prelude.{ℕ, List, Option, Some}
use Rattle.ioc_device.specs.declared.Answer.{Answer}
use Rattle.ioc_events.specs.declared.event.Event.{Event}
use Rattle.ioc_events.specs.declared.event.Event.TheVariants.{Process, Put, Complete, Notify, Cancel}
use Rattle.ioc_events.specs.declared.event.Call.{Call}
use Rattle.ioc_events.specs.declared.event.Call.TheVariants as call
use Rattle.ioc_journal_file.specs.declared.kinds.CallKind.{CallKind}
use Rattle.ioc_journal_file.specs.declared.kinds.CallKind.TheVariants as kind
use Rattle.ioc_journal_file.specs.declared.line.Mark.{Mark}
use Rattle.ioc_journal_file.specs.Words.{word_of, after_word}
use Rattle.ioc_journal_file.specs.Lists.{call_of}
use Rattle.ioc_journal_file.specs.Reading.{◌>>=◌}
use Rattle.ioc_journal_file.specs.Parts.{number_at, text_at, field_at, input_at, finished_at, reply_at, shown_at, changed_at, live_at, link_field_at, answers_of}

-- An event and its reply.
unfoldable pub replied_at : Event → List ℕ → Option (Call × List ℕ)
replied_at event bytes = do
  reply ← reply_at bytes
  Some (call.Event event reply.0, reply.1)

unfoldable pub process_at : List ℕ → Option (Call × List ℕ)
process_at bytes = do
  target ← number_at bytes
  replied_at (Process target.0) target.1

unfoldable pub put_at : List ℕ → Option (Call × List ℕ)
put_at bytes = do
  target ← number_at bytes
  field ← field_at target.1
  value ← input_at field.1
  replied_at (Put target.0 field.0 value.0) value.1

unfoldable pub complete_at : List ℕ → Option (Call × List ℕ)
complete_at bytes = do
  target ← number_at bytes
  wait ← number_at target.1
  finished ← finished_at wait.1
  replied_at (Complete target.0 wait.0 finished.0) finished.1

unfoldable pub notify_at : List ℕ → Option (Call × List ℕ)
notify_at bytes = do
  target ← number_at bytes
  notification ← number_at target.1
  field ← field_at notification.1
  value ← input_at field.1
  replied_at (Notify target.0 notification.0 field.0 value.0) value.1

unfoldable pub cancel_at : List ℕ → Option (Call × List ℕ)
cancel_at bytes = do
  notification ← number_at bytes
  replied_at (Cancel notification.0) notification.1

unfoldable pub get_at : List ℕ → Option (Call × List ℕ)
get_at bytes = do
  target ← number_at bytes
  field ← field_at target.1
  Some (call.Get target.0 field.0 (shown_at field.1).0, (shown_at field.1).1)

unfoldable pub is_live_at : List ℕ → Option (Call × List ℕ)
is_live_at bytes = do
  number ← number_at bytes
  Some (call.IsLive number.0 (live_at number.1).0, (live_at number.1).1)

unfoldable pub relink_at : List ℕ → Option (Call × List ℕ)
relink_at bytes = do
  target ← number_at bytes
  field ← field_at target.1
  link ← link_field_at field.1
  Some (call.Link target.0 field.0 link.0 (changed_at link.1).0, (changed_at link.1).1)

unfoldable pub post_at : List ℕ → Option (Call × List ℕ)
post_at bytes =
    let name = text_at 39 bytes in
    number_at name.1 >>= λ count. Some (call.Post name.0 count.0, count.1)

unfoldable pub interrupt_at : List ℕ → Option (Call × List ℕ)
interrupt_at bytes =
    let device = text_at 119 bytes in
    number_at device.1 >>= λ count. Some (call.Interrupt device.0 count.0, count.1)

-- The arguments and the reply of a call of the kind.
unfoldable pub call_by : CallKind → List ℕ → Option (Call × List ℕ)
call_by kind.Process bytes = process_at bytes
call_by kind.Put bytes = put_at bytes
call_by kind.Complete bytes = complete_at bytes
call_by kind.Notify bytes = notify_at bytes
call_by kind.Cancel bytes = cancel_at bytes
call_by kind.Get bytes = get_at bytes
call_by kind.IsLive bytes = is_live_at bytes
call_by kind.Link bytes = relink_at bytes
call_by kind.Post bytes = post_at bytes
call_by kind.Interrupt bytes = interrupt_at bytes

unfoldable pub call_at : List ℕ → Option (Call × List ℕ)
call_at bytes = do
  kind ← call_of (word_of bytes)
  call_by kind (after_word bytes)

unfoldable pub mark_at : List ℕ → Option (Mark × List ℕ)
mark_at bytes = do
  place ← number_at bytes
  desk ← number_at place.1
  number ← number_at desk.1
  moment ← number_at number.1
  Some (record { place = place.0; desk = desk.0; call = number.0; moment = moment.0 }, moment.1)

-- The parts of a line before its answers, and how many answers there are.
unfoldable pub head_at : List ℕ → Option ((Mark × Call × ℕ) × List ℕ)
head_at bytes = do
  mark ← mark_at bytes
  made ← call_at mark.1
  count ← number_at made.1
  Some ((mark.0, made.0, count.0), count.1)

-- The parts of a line. What follows the last answer isn't looked at.
unfoldable pub parts_of : List ℕ → Option (Mark × Call × List Answer)
parts_of bytes = do
  head ← head_at bytes
  answers ← answers_of head.0.2 head.1
  Some (head.0.0, head.0.1, answers)
