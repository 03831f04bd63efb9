-- The invariant of a lock set that is not in use.
--
-- Application Developer's Guide, "Database Locking, Scanning, and Processing": records that links
-- join are in one lock set.
use Rattle.std.specs.Prelude.{◌≡◌, ◌⊎◌, ℕ, ◌+◌, ◌-◌, ◌^◌, ◌<◌, ◌≤◌, length}
use Rattle.ioc_ledger.specs.declared.tally.Tally.{Tally}
use Rattle.ioc_ledger.specs.Requests.{Fits, AddsUp}
use Rattle.ioc_record.specs.RecordRules.{RecordRules}
use Rattle.ioc_set_records.specs.Joined.{links_of, IsPart}
use Rattle.ioc_store.specs.World.{World}
use Rattle.ioc_store.specs.Given.{answers_of}
use Rattle.ioc_process.specs.Rules.{IsSettled}
use Rattle.ioc_events.specs.declared.event.EventEntry.{EventEntry}
use Rattle.ioc_events.specs.EventReplay.{Replay}
use Rattle.ioc_events.specs.Starting.{NoneReady}
use Rattle.ioc_events.specs.Holding.{IsCounted, HoldersAwait}
use Rattle.ioc_set.specs.Awaiting.{awaited}
use Rattle.ioc_set.specs.SetState.{SetState, now_of, before_of, done_by, counted_on}

-- The begun requests are those processed, disabled, active or marked for reprocessing, and the
-- calls that are answered later are those completed and those still awaited, which are this many.
-- Each count is a number of 64 bits, and a full one means nothing.
pub record CountsAddUp (t : Tally) (still_awaited : ℕ) : Type 0 where
  pub fits : Fits t
  pub adds_up : AddsUp t
  pub answers_fit : (t.started < 2 ^ 64) × (t.completed < 2 ^ 64)
  pub answers_add_up : (t.started ≡ 2 ^ 64 - 1) ⊎ (t.started ≡ t.completed + still_awaited)

module _ {R D : Type 0} (k : RecordRules R) where
  -- The events of the history, one after another, lead from the state before them to the current
  -- one.
  pub record LeadsHere (h : SetState R D) : Type 0 where
    pub after : World R
    pub replay : Replay k (before_of h.base) h.history after
    pub records : after.records ≡ h.records
    pub live : after.live ≡ h.live
    pub waiting : after.waiting ≡ h.waiting

  -- The records are one connected part or none, and no link leaves them; a record is active if and
  -- only if a completion is pending; none that waits may start; the parts of each put with
  -- notification are counted and await a completion; the history leads to the current state and
  -- counts; the begun requests are those processed, disabled, active or marked for reprocessing;
  -- and the calls that are answered later are those completed and those that the records still
  -- await.
  pub record IsSound (h : SetState R D) : Type 0 where
    pub part : IsPart (links_of k h.records)
    pub settled : IsSettled k (now_of h)
    pub none_ready : NoneReady k (now_of h)
    pub counted : IsCounted k (now_of h)
    pub holders_await : HoldersAwait k (now_of h)
    pub leads : LeadsHere h
    pub tally : h.tally ≡ counted_on k h.base.tally (before_of h.base) h.history
    pub counts : CountsAddUp h.tally (awaited k h.records)
    pub short : length h.history ≤ 64

  -- An entry describes what its event did on the set: all its answers were used, and its reply was
  -- given.
  pub record TellsOf (h : SetState R D) (entry : EventEntry) : Type 0 where
    pub reply : (done_by k (now_of h) entry).reply ≡ entry.reply
    pub answers : answers_of (done_by k (now_of h) entry).world.calls ≡ entry.answers
