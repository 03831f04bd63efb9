-- The effect of one event on a database, as rules over whole databases: one for each way in which
-- an event can proceed.
--
-- Application Developer's Guide, "Runtime Database Access": dbGetField, dbPutField, dbProcess,
-- dbPutNotify, dbNotifyCancel.
use Rattle.std.specs.Prelude.{◌≡◌, ℕ, Bool, true, false, List, [], ◌∷◌, Some, None as Nothing_, Result, Ok, Err}
use Rattle.std.specs.FinMap.{contains_key, len}
use Rattle.ioc_values.specs.declared.error.IocError.{IocError}
use Rattle.ioc_values.specs.declared.error.IocError.TheVariants.{NoRecord, Stale, QueueFull}
use Rattle.ioc_values.specs.declared.input.Input.{Input}
use Rattle.ioc_values.specs.declared.value.Value.{Value}
use Rattle.ioc_values.specs.declared.value.Finished.{Finished}
use Rattle.ioc_fields.specs.declared.field_no.FieldNo.{FieldNo}
use Rattle.ioc_ledger.specs.declared.outcome.Outcome.{Outcome}
use Rattle.ioc_ledger.specs.declared.outcome.Outcome.TheVariants.{Reprocess}
use Rattle.ioc_ledger.specs.Requests.{Requests, None, Request, first_outcome, followed_by}
use Rattle.ioc_record.specs.RecordRules.{RecordRules}
use Rattle.ioc_dbcommon.specs.Steps.{with_put_mark, with_reprocess_mark}
use Rattle.ioc_dbcommon.specs.declared.link_field.LinkField.{LinkField}
use Rattle.ioc_record.specs.Values.{put_field}
use Rattle.ioc_events.specs.declared.event.Entry.{Entry}
use Rattle.ioc_events.specs.declared.event.Call.{Call}
use Rattle.ioc_events.specs.declared.event.Call.TheVariants as call
use Rattle.ioc_events.specs.declared.reply.Reply.{Reply}
use Rattle.ioc_events.specs.declared.reply.Reply.TheVariants.{Plain, Outcome as Outcome-reply, Notify as Notify-reply, Refused}
use Rattle.ioc_notify.specs.declared.waiting_lists.Waiting.{Waiting}
use Rattle.ioc_notify.specs.Living.{is_live}
use Rattle.ioc_store.specs.World.{World, Has, at, common_at, put, changed, begun_at, has_place, admitted, queued, unqueued, cancelled}
use Rattle.ioc_store.specs.Notifying.{notified}
use Rattle.ioc_events.specs.Starting.{value_to_put, must_wait, taken_and_stored, IsNext, NoneReady}
use Rattle.ioc_store.specs.Scanning.{rescanned}
use Rattle.ioc_process.specs.Rules.{Requested, Resumes}
use Rattle.ioc_events.specs.declared.event.Event.{Event}
use Rattle.ioc_events.specs.declared.event.Event.TheVariants.{Process, Put, Complete, Notify, Cancel}
use Rattle.ioc_events.specs.Step.{is_there, processes, awaits, lets_start, shown, link_refusal, relinked}
use Rattle.ioc_store.specs.Given.{Answers, answers_of, listed}

module _ {R : Type 0} (k : RecordRules R) (answers : Answers) where
  -- A put with notification starts: its record becomes part of it, the value is stored, and the
  -- record is processed as after a put. If nothing is processed, it ends immediately.
  pub data Starts : World R → Waiting → World R → Requests → Type 0 where
    to_be_processed : {w stored w' : World R} {x : Waiting} {requests : Requests}
        → stored ≡ taken_and_stored k w x
        → processes k (at k stored x.target) x.field ≡ true
        → Requested k answers (changed k stored x.target (with_put_mark true)) x.target w' requests
        → Starts w x w' requests
    at_once_told : {w stored : World R} {x : Waiting}
        → stored ≡ taken_and_stored k w x
        → processes k (at k stored x.target) x.field ≡ false
        → Starts w x (notified k stored x.target) None

  -- Those that wait start if they can, one after another, until there is none.
  pub data StartsAll : World R → World R → Requests → Type 0 where
    no_more : {w : World R}
        → NoneReady k w
        → StartsAll w w None
    next_starts : {w w' w'' : World R} {x : Waiting} {first rest : Requests}
        → IsNext k w x
        → Starts (unqueued x.number w) x w' first
        → StartsAll w' w'' rest
        → StartsAll w w'' (followed_by first rest)

  -- An event by itself leads from one database to another, with this reply and these requests.
  pub data Does : World R → Event → World R → Reply → Requests → Type 0 where
    no_such_record : {w : World R} {event : Event}
        → is_there w event ≡ false
        → Does w event w (Refused NoRecord) None
    processes_record : {w w' : World R} {s : ℕ} {outcome : Outcome} {requests : Requests}
        → contains_key w.records s ≡ true
        → Requested k answers w s w' requests
        → first_outcome requests ≡ Some outcome
        → Does w (Process s) w' (Outcome-reply outcome) requests
    refuses_value : {w : World R} {s : ℕ} {field : FieldNo} {given : Input} {e : IocError}
        → contains_key w.records s ≡ true
        → put_field k (at k w s) field given ≡ Err e
        → Does w (Put s field given) w (Refused e) None
    stores_alone : {w w' : World R} {s : ℕ} {field : FieldNo} {given : Input} {r : R}
        → contains_key w.records s ≡ true
        → put_field k (at k w s) field given ≡ Ok r
        → w' ≡ rescanned k (put w s r) s field
        → processes k (at k w' s) field ≡ false
        → Does w (Put s field given) w' Plain None
    stores_while_active : {w w' : World R} {s : ℕ} {field : FieldNo} {given : Input} {r : R}
        → contains_key w.records s ≡ true
        → put_field k (at k w s) field given ≡ Ok r
        → w' ≡ rescanned k (put w s r) s field
        → processes k (at k w' s) field ≡ true
        → (common_at k w' s).active ≡ true
        → Does w (Put s field given) (changed k w' s (with_reprocess_mark true)) (Outcome-reply Reprocess) (Request Reprocess None None)
    stores_and_processes : {w w' w'' : World R} {s : ℕ} {field : FieldNo} {given : Input} {r : R} {outcome : Outcome} {requests : Requests}
        → contains_key w.records s ≡ true
        → put_field k (at k w s) field given ≡ Ok r
        → w' ≡ rescanned k (put w s r) s field
        → processes k (at k w' s) field ≡ true
        → (common_at k w' s).active ≡ false
        → Requested k answers (changed k w' s (with_put_mark true)) s w'' requests
        → first_outcome requests ≡ Some outcome
        → Does w (Put s field given) w'' (Outcome-reply outcome) requests
    not_awaited : {w : World R} {s number : ℕ} {x : Finished}
        → contains_key w.records s ≡ true
        → awaits (common_at k w s) number ≡ false
        → Does w (Complete s number x) w (Refused Stale) None
    completes_record : {w w' : World R} {s number : ℕ} {x : Finished} {requests : Requests}
        → contains_key w.records s ≡ true
        → awaits (common_at k w s) number ≡ true
        → Resumes k answers w s x w' requests
        → Does w (Complete s number x) w' Plain requests
    refuses_notified_value : {w : World R} {s number : ℕ} {field : FieldNo} {given : Input} {e : IocError}
        → contains_key w.records s ≡ true
        → value_to_put k (at k w s) field given ≡ Err e
        → Does w (Notify s number field given) w (Refused e) None
    no_place : {w : World R} {s number : ℕ} {field : FieldNo} {given : Input} {v : Value}
        → contains_key w.records s ≡ true
        → value_to_put k (at k w s) field given ≡ Ok v
        → has_place w number ≡ false
        → Does w (Notify s number field given) w (Refused QueueFull) None
    waits_its_turn : {w : World R} {s number : ℕ} {field : FieldNo} {given : Input} {v : Value}
        → contains_key w.records s ≡ true
        → value_to_put k (at k w s) field given ≡ Ok v
        → has_place w number ≡ true
        → must_wait k w s ≡ true
        → Does w (Notify s number field given) (queued (record { number = number; target = s; field = field; value = v }) (admitted number w)) (Notify-reply number) None
    starts_now : {w w' : World R} {s number : ℕ} {field : FieldNo} {given : Input} {v : Value} {requests : Requests}
        → contains_key w.records s ≡ true
        → value_to_put k (at k w s) field given ≡ Ok v
        → has_place w number ≡ true
        → must_wait k w s ≡ false
        → Starts (admitted number w) (record { number = number; target = s; field = field; value = v }) w' requests
        → Does w (Notify s number field given) w' (Notify-reply number) requests
    not_live : {w : World R} {number : ℕ}
        → is_live number w.live ≡ false
        → Does w (Cancel number) w (Refused Stale) None
    cancels : {w : World R} {number : ℕ}
        → is_live number w.live ≡ true
        → Does w (Cancel number) (cancelled k number w) Plain None

  -- An event, after which waiting puts with notification start if they can, leads from one database
  -- to another.
  pub data Step : World R → Event → World R → Reply → Requests → Type 0 where
    by_itself : {w w' : World R} {event : Event} {reply : Reply} {requests : Requests}
        → Does w event w' reply requests
        → lets_start reply ≡ false
        → Step w event w' reply requests
    then_others : {w w' w'' : World R} {event : Event} {reply : Reply} {first rest : Requests}
        → Does w event w' reply first
        → lets_start reply ≡ true
        → StartsAll w' w'' rest
        → Step w event w'' reply (followed_by first rest)

  -- A call leads from one database to another, with the reply that it has.
  pub data Calls : World R → Call → World R → Requests → Type 0 where
    does_event : {w w' : World R} {event : Event} {reply : Reply} {requests : Requests}
        → Step w event w' reply requests
        → Calls w (call.Event event reply) w' requests
    shows_field : {w : World R} {s : ℕ} {field : FieldNo} {text : Result (List ℕ) IocError}
        → shown k w s field ≡ text
        → Calls w (call.Get s field text) w None
    tells_if_live : {w : World R} {number : ℕ} {live : Bool}
        → is_live number w.live ≡ live
        → Calls w (call.IsLive number live) w None
    keeps_its_link : {w : World R} {s : ℕ} {field : FieldNo} {link : LinkField} {e : IocError}
        → link_refusal k w s field link ≡ Some e
        → Calls w (call.Link s field link (Err e)) w None
    takes_link : {w : World R} {s : ℕ} {field : FieldNo} {link : LinkField}
        → link_refusal k w s field link ≡ Nothing_
        → Calls w (call.Link s field link (Ok tt)) (relinked k w s field link) None
    -- A posted event, and an interrupt of devices, put requests on queues. These are calls of their
    -- own, so how many they are says nothing about the database.
    posts_event : {w : World R} {name : List ℕ} {count : ℕ}
        → Calls w (call.Post name count) w None
    interrupts : {w : World R} {device : List ℕ} {count : ℕ}
        → Calls w (call.Interrupt device count) w None

module _ {R : Type 0} (k : RecordRules R) where
  -- The events of a list, one after another, lead from one database to another, each at its time
  -- stamp, with its reply, and with all its answers used.
  pub data Replay : World R → List Entry → World R → Type 0 where
    at_the_end : {w : World R} → Replay w [] w
    and_then : {w w' w'' : World R} {entry : Entry} {entries : List Entry} {requests : Requests}
        → Calls k (listed entry.answers) (begun_at entry.moment w) entry.call w' requests
        → answers_of w'.calls ≡ entry.answers
        → Replay w' entries w''
        → Replay w (entry ∷ entries) w''

-- No record is added or removed.
pub record KeepsRecords {R : Type 0} (before after : World R) : Type 0 where
  pub has : (n : ℕ) → Has before n → Has after n
  pub only : (n : ℕ) → Has after n → Has before n
  pub count : len after.records ≡ len before.records
