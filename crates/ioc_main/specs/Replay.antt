-- The effects of a script on a database, line by line, and what is printed.
use Rattle.std.specs.Prelude.{ℕ, List, [], ◌∷◌, ◌++◌, take, codes, decimal, if◌then◌else◌, Option, Some, None, Result, Ok, Err, ok_or}
use Rattle.std.specs.FinMap.{contains_key}
use Rattle.ioc_values.specs.declared.value.Value.{Value}
use Rattle.ioc_values.specs.declared.value.Value.TheVariants.{Text}
use Rattle.ioc_values.specs.declared.value.Finished.{Finished}
use Rattle.ioc_values.specs.declared.value.Finished.TheVariants.{Done as Finished-done, Fault as Finished-fault}
use Rattle.ioc_values.specs.declared.error.IocError.{IocError}
use Rattle.ioc_values.specs.declared.error.IocError.TheVariants.{NoRecord, NoField}
use Rattle.ioc_values.specs.Conversion.{input_of}
use Rattle.ioc_names.specs.NameTable.{NameTable, number_of}
use Rattle.ioc_fields.specs.declared.field_no.FieldNo.{FieldNo}
use Rattle.ioc_fields.specs.Names.{field_of}
use Rattle.ioc_device.specs.declared.Answer.{Answer}
use Rattle.ioc_device.specs.declared.Answer.TheVariants.{Done as Answer-done, Fault as Answer-fault, Later as Answer-later}
use Rattle.ioc_record.specs.RecordRules.{RecordRules}
use Rattle.ioc_store.specs.World.{World, at}
use Rattle.ioc_events.specs.declared.event.Event.TheVariants.{Process as Process-event, Put as Put-event, Complete as Complete-event}
use Rattle.ioc_events.specs.Step.{shown}
use Rattle.ioc_commands.specs.Commands.{Command, Silent, Bad, Process, Put, Get, At, Next-done, Next-fault, Next-later, Done, Fault, Event, Interrupt, Scan, Link, Tally as Tally-command, command_of, is_silent, Notify, Cancel, Sets}
use Rattle.ioc_main.specs.Replies.{reply_words, text_words, count_words, tally_words}
use Rattle.ioc_scan.specs.declared.list_name.ListName.TheVariants.{Period as Period-list}
use Rattle.ioc_main.specs.Sets.{sets_line}
use Rattle.ioc_scan_rules.specs.Asked.{event_list, interrupt_list}
use Rattle.ioc_main.specs.Relink.{were_linked}
use Rattle.ioc_sim.specs.Machine.{Machine, MachineReply, Counted, refused, queued_at, queued_on, at_moment, most_served, done, scanned, serve, with_none_ended, notified, given_up}

-- A line for each put with notification that has ended.
abbrev pub ended_lines : List ℕ → List ℕ
ended_lines [] = []
ended_lines (number ∷ numbers) = (codes "ended " ++ decimal number ++ 10 ∷ []) ++ ended_lines numbers

-- The machine after a line, and what is printed for the line.
pub record Answered (R : Type 0) : Type 0 where
  pub machine : Machine R
  pub said : List ℕ

-- The line of a reply.
abbrev pub replied : {R : Type 0} → MachineReply R → Answered R
replied told = record { machine = told.machine; said = reply_words told.reply ++ 10 ∷ [] }

-- The line of a count.
abbrev pub counted : {R : Type 0} → Counted R → Answered R
counted c = record { machine = c.machine; said = count_words c.count ++ 10 ∷ [] }

-- The value of a text, which is its first 39 bytes.
abbrev pub given_value : List ℕ → Value
given_value text = Text (take 39 text)

-- The puts with notification that have ended are reported, and then forgotten.
abbrev pub ended_told : {R : Type 0} → Machine R → Answered R
ended_told m = record { machine = with_none_ended m; said = ended_lines m.ended }

-- Waiting requests are served, and the puts with notification that have ended since are reported.
unfoldable pub attended : {R : Type 0} → RecordRules R → Machine R → Answered R
attended k m = ended_told (serve k most_served m)

-- The record with this name.
abbrev pub record_named : NameTable → List ℕ → Result ℕ IocError
record_named names name = ok_or (number_of names name) NoRecord

module _ {R : Type 0} (k : RecordRules R) (names : NameTable) where
  -- The field with this name of the record with this name.
  abbrev pub field_in : ℕ → Option FieldNo → Result (ℕ × FieldNo) IocError
  field_in number None = Err NoField
  field_in number (Some field) = Ok (number, field)

  abbrev pub field_at : World R → List ℕ → Option ℕ → Result (ℕ × FieldNo) IocError
  field_at w field None = Err NoRecord
  field_at w field (Some number) =
      if contains_key w.records number then field_in number (field_of (k.record_type (at k w number)) field) else Err NoRecord

  unfoldable pub channel : World R → List ℕ → List ℕ → Result (ℕ × FieldNo) IocError
  channel w name field = field_at w field (number_of names name)

  abbrev pub processed : Machine R → Result ℕ IocError → MachineReply R
  processed m (Ok number) = done k m (Process-event number)
  processed m (Err e) = refused m e

  -- The text of a field. A get changes nothing.
  abbrev pub got : Machine R → Result (ℕ × FieldNo) IocError → Result (List ℕ) IocError
  got m (Ok c) = shown k m.world c.0 c.1
  got m (Err e) = Err e

  abbrev pub were_put : Machine R → List ℕ → Result (ℕ × FieldNo) IocError → MachineReply R
  were_put m text (Ok c) = done k m (Put-event c.0 c.1 (input_of text))
  were_put m text (Err e) = refused m e

  abbrev pub were_notified : Machine R → List ℕ → Result (ℕ × FieldNo) IocError → MachineReply R
  were_notified m text (Ok c) = notified k m c.0 c.1 (input_of text)
  were_notified m text (Err e) = refused m e

  -- An answer is queued for the device of a record.
  abbrev pub answers_next : Machine R → Answer → Result ℕ IocError → MachineReply R
  answers_next m answer (Ok number) = queued_at m number answer (m.queued number)
  answers_next m answer (Err e) = refused m e

  abbrev pub were_completed : Machine R → ℕ → Finished → Result ℕ IocError → MachineReply R
  were_completed m wait finished (Ok number) = done k m (Complete-event number wait finished)
  were_completed m wait finished (Err e) = refused m e

  -- The effect of a command.
  unfoldable pub carried_out : Machine R → Command → Answered R
  carried_out m Silent = record { machine = m; said = [] }
  carried_out m Bad = record { machine = m; said = codes "bad\n" }
  carried_out m (Process name) = replied (processed m (record_named names name))
  carried_out m (Put name field text) = replied (were_put m text (channel m.world name field))
  carried_out m (Get name field) = record { machine = m; said = text_words (got m (channel m.world name field)) ++ 10 ∷ [] }
  carried_out m (At moment) = record { machine = at_moment moment m; said = codes "ok\n" }
  carried_out m (Next-done name text) = replied (answers_next m (Answer-done (given_value text)) (record_named names name))
  carried_out m (Next-fault name) = replied (answers_next m Answer-fault (record_named names name))
  carried_out m (Next-later name) = replied (answers_next m Answer-later (record_named names name))
  carried_out m (Done name wait text) = replied (were_completed m wait (Finished-done (given_value text)) (record_named names name))
  carried_out m (Fault name wait) = replied (were_completed m wait Finished-fault (record_named names name))
  carried_out m (Event name) = counted (queued_on m (event_list (take 39 name)))
  carried_out m (Interrupt word) = counted (queued_on m (interrupt_list word))
  carried_out m (Scan period) = counted (scanned k m (Period-list period))
  carried_out m (Link name field text) = replied (were_linked k names m text (channel m.world name field))
  carried_out m Tally-command = record { machine = m; said = tally_words m.tally m.scanner.queues.dropped ++ 10 ∷ [] }
  carried_out m (Notify name field text) = replied (were_notified m text (channel m.world name field))
  carried_out m (Cancel number) = replied (given_up k m number)
  carried_out m Sets = record { machine = m; said = sets_line k m.world }

  -- The effect of a line: after a command, waiting requests are served.
  unfoldable pub answered : Machine R → Command → Answered R
  answered m command =
      let did = carried_out m command in
      if is_silent command then did
      else (let later = attended k did.machine in record { machine = later.machine; said = did.said ++ later.said })

  -- What is printed for these lines.
  abbrev pub transcript : Machine R → List (List ℕ) → List ℕ
  transcript m [] = []
  transcript m (line ∷ lines) = let did = answered m (command_of line) in did.said ++ transcript did.machine lines
