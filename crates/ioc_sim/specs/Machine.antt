-- What a script works on, and the effects of events on it: a database with devices whose answers
-- are queued, the counts of requests, its scan lists, and the waiting requests. Application
-- Developer's Guide, "Device Support" and "Scanning Specification": scanOnce.
use Rattle.std.specs.Prelude.{◌≡◌, ℕ, zero, suc, ◌==◌, if◌then◌else◌, List, [], ◌∷◌, ◌++◌, length, map, drop, option_map, slice_get, Option, Some}
use Rattle.std.specs.Prelude.{None as Nothing_}
use Rattle.ioc_values.specs.declared.input.Input.{Input}
use Rattle.ioc_values.specs.declared.error.IocError.{IocError}
use Rattle.ioc_values.specs.declared.error.IocError.TheVariants.{NoField}
use Rattle.ioc_fields.specs.declared.field_no.FieldNo.{FieldNo}
use Rattle.ioc_device.specs.declared.Ask.{Ask}
use Rattle.ioc_device.specs.declared.Answer.{Answer}
use Rattle.ioc_device.specs.declared.Answer.TheVariants.{Fault, Later}
use Rattle.ioc_ledger.specs.declared.tally.Tally.{Tally}
use Rattle.ioc_ledger.specs.Requests.{more, no_counts}
use Rattle.ioc_callback.specs.declared.queues.Queues.{Queues}
use Rattle.ioc_callback.specs.Serving.{no_items, in_turn, served}
use Rattle.ioc_scan.specs.declared.list_name.ListName.{ListName}
use Rattle.ioc_scan.specs.declared.position.Listed.{Listed}
use Rattle.ioc_scan.specs.Walked.{walked}
use Rattle.ioc_record.specs.RecordRules.{RecordRules}
use Rattle.ioc_store.specs.declared.call.Call.{Call}
use Rattle.ioc_events.specs.declared.event.Event.{Event}
use Rattle.ioc_events.specs.declared.event.Event.TheVariants.{Process, Notify, Cancel}
use Rattle.ioc_events.specs.declared.reply.Reply.{Reply}
use Rattle.ioc_events.specs.declared.reply.Reply.TheVariants.{Plain, Refused}
use Rattle.ioc_store.specs.Given.{Answers, Devices, with_device}
use Rattle.ioc_store.specs.OneMap.{device_at}
use Rattle.ioc_store.specs.World.{World, begun, begun_at}
use Rattle.ioc_dbcommon.specs.declared.link_field.LinkField.{LinkField}
use Rattle.ioc_events.specs.Step.{stepped, tallied, is_refusal, link_refusal, relinked}
use Rattle.ioc_scan_rules.specs.declared.places.Occasion.TheVariants.{Scanning as When-scanned}
use Rattle.ioc_scan_rules.specs.FirstLists.{first_lists, starters}
use Rattle.ioc_dbfile.specs.FirstWorld.{first_world}
use Rattle.ioc_dbfile.specs.Finished.{Owner}
use Rattle.ioc_dbfile.specs.Owners.{owner_of, owns_device}
use Rattle.ioc_sim.specs.Scanner.{Scanner, called_on, with_outbox}

-- The answers that are queued for the device of each record that has one.
abbrev pub Queued : Type 0
Queued = Devices (List Answer)

-- The first of the answers. If none is queued, the answer is asynchronous.
abbrev pub first_answer : List Answer → Answer
first_answer [] = Later
first_answer (answer ∷ answers) = answer

-- A device with queued answers returns the first of them for any question, and keeps the others.
abbrev pub TakesAnswer : List Answer → Ask → ℕ → Answer → List Answer → Type 0
TakesAnswer before ask moment answer after = (answer ≡ first_answer before) × (after ≡ drop 1 before)

-- The next answer of a device, or a fault for a record without one.
abbrev pub next_answer : Option (List Answer) → Answer
next_answer Nothing_ = Fault
next_answer (Some answers) = first_answer answers

-- The number of these calls that are for the device of record `n`.
abbrev pub times_asked : ℕ → List Call → ℕ
times_asked n [] = 0
times_asked n (call ∷ calls) = if n == call.target then suc (times_asked n calls) else times_asked n calls

-- The answers that are left after these calls, each of which takes the first answer of its device.
unfoldable pub left_after : Queued → List Call → Queued
left_after queued calls n = option_map (drop (times_asked n calls)) (queued n)

-- The answers of devices: each call gets the next answer of its device, after the calls before it.
unfoldable pub answers_from : Queued → Answers
answers_from queued before n ask = next_answer (left_after queued before n)

pub record Machine (R : Type 0) : Type 0 where
  pub world : World R
  -- The answers that are queued for devices.
  pub queued : Queued
  pub tally : Tally
  -- The scan lists, and the waiting requests.
  pub scanner : Scanner
  -- The owner of each device.
  pub owner : Owner
  -- The number of the next put with notification, from 1 on.
  pub next : ℕ
  -- The puts with notification that have ended since the list was last cleared, in order.
  pub ended : List ℕ

-- The machine after a call, and the reply.
pub record MachineReply (R : Type 0) : Type 0 where
  pub machine : Machine R
  pub reply : Reply

-- Holds if a machine and a reply are those after a call.
abbrev pub Gives : {R : Type 0} → MachineReply R → Machine R → Reply → Type 0
Gives told machine reply = (machine ≡ told.machine) × (reply ≡ told.reply)

-- A refusal, which changes nothing.
abbrev pub refused : {R : Type 0} → Machine R → IocError → MachineReply R
refused m e = record { machine = m; reply = Refused e }

-- The machine with an answer queued for the device of record `n`, behind the answers that it has.
abbrev pub queued_at : {R : Type 0} → Machine R → ℕ → Answer → Option (List Answer) → MachineReply R
queued_at m n answer Nothing_ = refused m NoField
queued_at m n answer (Some answers) =
    record { machine = record m { queued = with_device m.queued n (answers ++ answer ∷ []) }; reply = Plain }

-- The machine with this time stamp for later events.
abbrev pub at_moment : {R : Type 0} → ℕ → Machine R → Machine R
at_moment moment m = record m { world = begun_at moment m.world }

-- The machine with these waiting requests.
abbrev pub with_queues : {R : Type 0} → Machine R → Queues ℕ → Machine R
with_queues m queues = record m { scanner = record m.scanner { queues = queues } }

-- The machine with the puts with notification that ended in an event appended to its list.
abbrev pub with_ended_kept : {R : Type 0} → Machine R → Machine R
with_ended_kept m = record m { ended = m.ended ++ m.world.ended }

-- The machine after it took what an event sent, and kept what ended in it.
abbrev pub with_sent : {R : Type 0} → Machine R → Machine R
with_sent m = with_ended_kept (record m { scanner = with_outbox m.scanner m.world })

-- The machine with the list of ended puts with notification cleared.
abbrev pub with_none_ended : {R : Type 0} → Machine R → Machine R
with_none_ended m = record m { ended = [] }

-- The machine with the next number used up, unless the put with notification was refused.
abbrev pub with_number : {R : Type 0} → MachineReply R → MachineReply R
with_number told =
    record told { machine = record told.machine { next = if is_refusal told.reply then told.machine.next else more told.machine.next } }

-- A machine, and a number that is returned to the caller.
pub record Counted (R : Type 0) : Type 0 where
  pub machine : Machine R
  pub count : ℕ

-- The machine with the records of a list, if there is one, put on the callback queues, and the
-- number of those that found room.
abbrev pub queued_on : {R : Type 0} → Machine R → Option ListName → Counted R
queued_on m list =
    let queued = called_on m.scanner list in record { machine = record m { scanner = queued.scanner }; count = queued.count }

-- The maximal number of requests that are served after a line.
abbrev pub most_served : ℕ
most_served = 1000

module _ {R : Type 0} (k : RecordRules R) where
  -- A record that owns a device has a device without queued answers.
  abbrev pub first_queue : R → Option (List Answer)
  first_queue r = if owns_device k r then Some [] else Nothing_

  -- An event, without what it sent.
  unfoldable pub stepped_on : Machine R → Event → MachineReply R
  stepped_on m event =
      let step = stepped k (answers_from m.queued) (begun m.world) event in
      record {
        machine = record {
          world = step.world;
          queued = left_after m.queued step.world.calls;
          tally = tallied m.tally (begun m.world) event step;
          scanner = m.scanner;
          owner = m.owner;
          next = m.next;
          ended = m.ended;
        };
        reply = step.reply;
      }

  -- A change of a link, unless it is refused, without what it sent.
  abbrev pub relinked_unless : Option IocError → Machine R → ℕ → FieldNo → LinkField → MachineReply R
  relinked_unless (Some e) m n field link = refused (record m { world = begun m.world }) e
  relinked_unless Nothing_ m n field link = record { machine = record m { world = relinked k (begun m.world) n field link }; reply = Plain }

  unfoldable pub relinked_on : Machine R → ℕ → FieldNo → LinkField → MachineReply R
  relinked_on m n field link = relinked_unless (link_refusal k (begun m.world) n field link) m n field link

  -- A machine and a reply, with what was sent.
  abbrev pub after_sent : MachineReply R → MachineReply R
  after_sent told = record { machine = with_sent told.machine; reply = told.reply }

  -- An event, with what it sent.
  abbrev pub done : Machine R → Event → MachineReply R
  done m event = after_sent (stepped_on m event)

  -- A change of a link, with what it sent.
  abbrev pub linked : Machine R → ℕ → FieldNo → LinkField → MachineReply R
  linked m n field link = after_sent (relinked_on m n field link)

  -- A put with notification, under the next number.
  abbrev pub notified : Machine R → ℕ → FieldNo → Input → MachineReply R
  notified m n field given = with_number (done m (Notify n m.next field given))

  -- The cancel of a put with notification.
  abbrev pub given_up : Machine R → ℕ → MachineReply R
  given_up m number = done m (Cancel number)

  -- Requests of these records, each in its own event.
  abbrev pub each_requested : Machine R → List Listed → Machine R
  each_requested m [] = m
  each_requested m (x ∷ xs) = each_requested (done m (Process x.number)).machine xs

  -- A loaded database before its records with PINI are processed.
  unfoldable pub loaded_machine : List R → Machine R
  loaded_machine records =
      record {
        world = first_world records;
        queued = device_at (map first_queue records);
        tally = no_counts;
        scanner = record { lists = first_lists k When-scanned records; queues = no_items };
        owner = owner_of k records;
        next = 1;
        ended = [];
      }

  -- A loaded database before the first line of the script, once its records with PINI are
  -- processed.
  abbrev pub first_machine : List R → Machine R
  first_machine records = each_requested (loaded_machine records) (starters k records)

  -- The machine after this request, the first that waits, is served.
  abbrev pub served_one : Machine R → Option ℕ → Machine R
  served_one m Nothing_ = m
  served_one m (Some n) = (done (with_queues m (served m.scanner.queues)) (Process n)).machine

  -- The machine after at most this many waiting requests are served.
  unfoldable pub serve : ℕ → Machine R → Machine R
  serve zero m = m
  serve (suc turns) m = serve turns (served_one m (slice_get (in_turn m.scanner.queues) 0))

  -- The machine after the records of a list are requested at once, and the length of the list.
  abbrev pub scanned : Machine R → ListName → Counted R
  scanned m list = let xs = walked m.scanner.lists list in record { machine = each_requested m xs; count = length xs }
