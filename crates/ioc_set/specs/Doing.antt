-- One event on a lock set, as seen by its caller.
--
-- Application Developer's Guide, "Runtime Database Access": dbGetField, dbPutField, dbProcess,
-- dbPutNotify, dbNotifyCancel.
use Rattle.std.specs.Prelude.{◌≡◌, ◌==◌, ◌≤◌, ◌⊎◌, ◌||◌, ℕ, Bool, true, false, not, nat_lt, if◌then◌else◌, List, length}
use Rattle.std.specs.FinMap.{get}
use Rattle.ioc_device.specs.declared.Ask.{Ask}
use Rattle.ioc_device.specs.declared.Answer.{Answer}
use Rattle.ioc_ledger.specs.declared.tally.Tally.{Tally}
use Rattle.ioc_notify.specs.declared.live_numbers.Live.{Live}
use Rattle.ioc_notify.specs.declared.waiting_lists.Waiting.{Waiting}
use Rattle.ioc_record.specs.RecordRules.{RecordRules}
use Rattle.ioc_set_records.specs.Contents.{Records, Contents}
use Rattle.ioc_store.specs.World.{World, Keeps, begun_at}
use Rattle.ioc_store.specs.Given.{DevicesWork, answers_of}
use Rattle.ioc_events.specs.declared.event.Event.{Event}
use Rattle.ioc_events.specs.declared.event.Event.TheVariants.{Process, Put, Complete}
use Rattle.ioc_events.specs.declared.event.EventEntry.{EventEntry}
use Rattle.ioc_events.specs.declared.reply.Reply.{Reply}
use Rattle.ioc_events.specs.Step.{tallied}
use Rattle.ioc_set.specs.declared.set_store.SetStore.{SetStore}
use Rattle.ioc_set.specs.SetStore.{world_of}
use Rattle.ioc_set.specs.Puts.{Puts, now_with}
use Rattle.ioc_set.specs.SetState.{SetState, now_of, folded, done_by, held_after}
use Rattle.ioc_set.specs.Resting.{resting}
use Rattle.ioc_set.specs.Sound.{TellsOf}

-- Holds of a request, a put and a completion.
abbrev pub is_ordinary : Event → Bool
is_ordinary (Process s) = true
is_ordinary (Put s field given) = true
is_ordinary (Complete s number finished) = true
is_ordinary _ = false

-- The state of a set with these records, puts with notification, counts and history.
abbrev pub held_by : {R D : Type 0} → Contents R D → Puts → Tally → Tally → List EventEntry → SetState R D
held_by c puts before counts entries = record {
  records = c.records;
  devices = c.devices;
  live = puts.live;
  waiting = puts.waiting;
  tally = counts;
  base = record { records = c.base; live = puts.base_live; waiting = puts.base_waiting; tally = before };
  history = entries;
}

-- A history that keeps this many entries at most is full, which one with 64 entries always is.
abbrev pub is_full : ℕ → ℕ → Bool
is_full most count = count == 64 || not (nat_lt count most)

-- The set with a place for one more event in its history, which is cleared first if it is full.
abbrev pub with_place : {R D : Type 0} → ℕ → SetState R D → SetState R D
with_place most h = if is_full most (length h.history) then folded h else h

-- A history has at most this many entries, or one.
abbrev pub IsShort : {R D : Type 0} → ℕ → SetState R D → Type 0
IsShort most h = (length h.history ≤ most) ⊎ (length h.history ≤ 1)

-- The state of an event with these records.
abbrev pub with_records : {R : Type 0} → Records R → World R → World R
with_records rs w = record w { records = rs }

-- The state of an event with these records and puts with notification, which a set takes back after
-- the event.
abbrev pub with_kept : {R : Type 0} → Records R → List Live → List Waiting → World R → World R
with_kept rs live waiting w = record w { records = rs; live = live; waiting = waiting }

module _ {R D : Type 0} (k : RecordRules R) (gives : D → Ask → ℕ → Answer → D → Type 0) where
  -- An event with this time stamp is done on a set and appended to its history: the set afterwards,
  -- the reply, and the state of the event beside what the set keeps. The history keeps at most
  -- `most` entries: it is cleared before the event if it has as many, or 64. Each device that was
  -- called gave its answer by its own relation, in the order of the calls.
  pub record Does (most : ℕ) (held : SetState R D) (at_moment : ℕ) (done : Event) (reply : Reply) (held_then : SetState R D) (come_to : World R) : Type 0 where
    pub entry : EventEntry
    pub moment : entry.moment ≡ at_moment
    pub event : entry.event ≡ done
    pub answer : entry.reply ≡ reply
    pub tells : TellsOf k (with_place most held) entry
    pub after : held_then ≡ held_after k (with_place most held) entry held_then.devices
    pub work : DevicesWork gives (get held.devices) at_moment (done_by k (now_of held) entry).world.calls (get held_then.devices)
    pub left : with_kept held_then.records held_then.live held_then.waiting come_to ≡ (done_by k (now_of held) entry).world

  -- An event on the records of a set with these puts with notification: the records, puts and
  -- counts afterwards, and the store on which it was done.
  pub record Did (before : Contents R D) (was : Puts) (counts : Tally) (entry : EventEntry) (after : Contents R D) (is : Puts) (counts_then : Tally) (store : SetStore R D) : Type 0 where
    pub reply : (done_by k (resting before.records was.live was.waiting) entry).reply ≡ entry.reply
    pub answers : answers_of (done_by k (resting before.records was.live was.waiting) entry).world.calls ≡ entry.answers
    pub records : after.records ≡ (done_by k (resting before.records was.live was.waiting) entry).world.records
    pub base : after.base ≡ before.base
    pub puts : is ≡ now_with was (done_by k (resting before.records was.live was.waiting) entry).world.live (done_by k (resting before.records was.live was.waiting) entry).world.waiting
    pub tally : counts_then ≡ tallied counts (begun_at entry.moment (resting before.records was.live was.waiting)) entry.event (done_by k (resting before.records was.live was.waiting) entry)
    pub work : DevicesWork gives (get before.devices) entry.moment (done_by k (resting before.records was.live was.waiting) entry).world.calls (get after.devices)
    pub keeps : Keeps k (begun_at entry.moment (resting before.records was.live was.waiting)) (done_by k (resting before.records was.live was.waiting) entry).world
    pub left : with_kept after.records is.live is.waiting (world_of store) ≡ (done_by k (resting before.records was.live was.waiting) entry).world
