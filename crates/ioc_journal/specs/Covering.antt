-- What the caller that holds some records knows of the world of all records. Application
-- Developer's Guide, "Database Locking, Scanning, and Processing": a lock set has every record that
-- its links lead to.
use Rattle.std.specs.Prelude.{◌≡◌, ℕ, Bool, true, false, List, [], Contains, Some}
use Rattle.std.specs.FinMap.{get}
use Rattle.ioc_notify.specs.Waits.{at_record}
use Rattle.ioc_notify.specs.declared.waiting_lists.Waiting.{Waiting}
use Rattle.ioc_record.specs.RecordRules.{RecordRules, targets}
use Rattle.ioc_store.specs.World.{World, Has, IsClosed, at, common_at, begun_at}
use Rattle.ioc_store.specs.Given.{answers_of}
use Rattle.ioc_events.specs.declared.event.Call.{Call}
use Rattle.ioc_events.specs.declared.event.Call.TheVariants as call
use Rattle.ioc_events.specs.declared.event.Event.TheVariants.{Cancel}
use Rattle.ioc_events.specs.Holding.{holders}
use Rattle.ioc_events.specs.Local.{AskAlikeCall}
use Rattle.ioc_events.specs.Calls.{named as named_by_call}
use Rattle.ioc_set_records.specs.Joined.{AreShared}
use Rattle.ioc_journal.specs.declared.entry.Note.{Note}
use Rattle.ioc_journal.specs.Key.{Key, Has as Has_key}
use Rattle.ioc_journal.specs.Line.{Spares}
use Rattle.ioc_journal.specs.Legal.{entry_of, key_of, notifications_key, done}

-- Holds if each entry of the waiting lists waits for a record that is in the world.
abbrev pub WaitsWithin : {R : Type 0} → World R → Type 0
WaitsWithin v = (x : Waiting) → Contains v.waiting x → Has v x.target

-- Holds if the records of `v` are a held part of the world `m`: each of them is in `m` as it is in
-- `v`, with the same waiting list; nothing in `v` waits for other records, no link of `v` leaves
-- `v`, and no link of a record outside leads to a record of `v`.
pub record Holds {R : Type 0} (k : RecordRules R) (m v : World R) : Type 0 where
  pub records : (n : ℕ) → Has v n → get m.records n ≡ get v.records n
  pub waiting : (n : ℕ) → Has v n → at_record n m.waiting ≡ at_record n v.waiting
  pub within : WaitsWithin v
  pub shut : IsClosed k v
  pub apart : (a n : ℕ) → (Has v a → ⊥) → Has v n → Contains (targets k (at k m a)) n → ⊥

-- Holds if no note has the key of one of these records.
abbrev pub AreSpared : {R : Type 0} → World R → List Note → Type 0
AreSpared v notes = (n : ℕ) → Has v n → Spares (key_of n) notes

-- Holds if the keys include those of these records.
abbrev pub Cover : {R : Type 0} → List Key → World R → Type 0
Cover keys v = (n : ℕ) → Has v n → Has_key (key_of n) keys

-- Holds if the event of the note, done on `v`, has the reply of the note, uses all its answers, and
-- leaves `w`.
pub record IsDone {R : Type 0} (k : RecordRules R) (v : World R) (n : Note) (w : World R) : Type 0 where
  pub world : (done k v n).world ≡ w
  pub reply : (done k v n).call ≡ (entry_of n).call
  pub used : answers_of (done k v n).world.calls ≡ (entry_of n).answers

-- Holds if the records that are part of a canceled put with notification are in `v`, and the
-- requests that wait under its number wait for records of `v`.
abbrev pub CancelsWithin : {R : Type 0} → RecordRules R → World R → World R → Call → Type 0
CancelsWithin k m v (call.Event (Cancel number) reply) =
    ((n : ℕ) → Has m n → (common_at k m n).notification ≡ Some number → Has v n)
    × ((x : Waiting) → Contains m.waiting x → x.number ≡ number → Has v x.target)
CancelsWithin k m v _ = Unit {0}

-- Holds if each put with notification has as many records and waiting requests in one world as in
-- the other.
abbrev pub AreHeldAlike : {R : Type 0} → RecordRules R → World R → World R → Type 0
AreHeldAlike k w v = (number : ℕ) → holders k w number ≡ holders k v number

-- Holds if the event of the note concerns `v` alone: it names records of `v`, a put with
-- notification that it cancels is within `v`, and its questions about all puts with notification
-- have the same answer in `v` as in the world of all. Its keys cover `v`. If it doesn't have the
-- key of the puts with notification, each of these has as many records in `v` after the event as
-- before.
pub record IsOf {R : Type 0} (k : RecordRules R) (m v : World R) (n : Note) : Type 0 where
  pub named : (r : ℕ) → Contains (named_by_call (entry_of n).call) r → Has v r
  pub cancels : CancelsWithin k m v (entry_of n).call
  pub asks : AskAlikeCall (begun_at (entry_of n).moment v) (begun_at (entry_of n).moment m) (entry_of n).call
  pub covers : Cover n.keys v
  pub live : (Has_key notifications_key n.keys → ⊥) → AreHeldAlike k v (done k v n).world

-- Holds if the records of `one` have the waiting lists that they have in `all`, and nothing else
-- waits in `one`.
pub record IsPartOf {R : Type 0} (one all : World R) : Type 0 where
  pub waiting : (n : ℕ) → Has one n → at_record n one.waiting ≡ at_record n all.waiting
  pub within : WaitsWithin one

-- Holds if each record of `all` is in exactly one of the two, unchanged and with its waiting list,
-- and neither has anything else.
pub record AreHalves {R : Type 0} (all one other : World R) : Type 0 where
  pub records : AreShared (get all.records) (get one.records) (get other.records)
  pub first : IsPartOf one all
  pub second : IsPartOf other all

-- Whether an event changes nothing: a get, or the question whether a put with notification is live.
abbrev pub is_question : Call → Bool
is_question (call.Get s field text) = true
is_question (call.IsLive number live) = true
is_question _ = false

-- The note of such an event, in which no device answers.
abbrev pub question_note : (desk call moment : ℕ) → Call → List Key → Note
question_note desk number moment asked keys = record { entry = record { desk = desk; call = number; entry = record { moment = moment; call = asked; answers = [] } }; keys = keys }
