-- The state of a lock set between events, and what an event leaves of it.
--
-- Application Developer's Guide, "Database Locking, Scanning, and Processing". The history is this
-- project's own design.
use Rattle.std.specs.Prelude.{◌≡◌, List, [], ◌∷◌, ◌++◌}
use Rattle.std.specs.FinMap.{empty}
use Rattle.ioc_ledger.specs.Requests.{no_counts}
use Rattle.ioc_ledger.specs.declared.tally.Tally.{Tally}
use Rattle.ioc_notify.specs.declared.live_numbers.Live.{Live}
use Rattle.ioc_notify.specs.declared.waiting_lists.Waiting.{Waiting}
use Rattle.ioc_record.specs.RecordRules.{RecordRules}
use Rattle.ioc_set_records.specs.Contents.{Records, Devices}
use Rattle.ioc_store.specs.World.{World, begun_at}
use Rattle.ioc_store.specs.Given.{listed}
use Rattle.ioc_events.specs.declared.event.EventEntry.{EventEntry}
use Rattle.ioc_events.specs.Step.{Stepped, stepped, tallied}
use Rattle.ioc_set.specs.Resting.{resting}

-- The state of a set before the first event of its history.
pub record SetBase (R : Type 0) : Type 0 where
  pub records : Records R
  pub live : List Live
  pub waiting : List Waiting
  pub tally : Tally

-- The records of a set with their devices, the live puts with notification and those of them that
-- wait, the counts of requests, and the history: the last events, and the state before them.
pub record SetState (R D : Type 0) : Type 0 where
  pub records : Records R
  pub devices : Devices D
  pub live : List Live
  pub waiting : List Waiting
  pub tally : Tally
  pub base : SetBase R
  pub history : List EventEntry

-- No records, no counts and no history.
abbrev pub nothing_held : {R D : Type 0} → SetState R D
nothing_held = record { records = empty; devices = empty; live = []; waiting = []; tally = no_counts; base = record { records = empty; live = []; waiting = []; tally = no_counts }; history = [] }

-- No put with notification is live on a set, and so none waits.
abbrev pub NoneIsLive : {R D : Type 0} → SetState R D → Type 0
NoneIsLive h = (h.live ≡ []) × (h.waiting ≡ [])

abbrev pub now_of : {R D : Type 0} → SetState R D → World R
now_of h = resting h.records h.live h.waiting

abbrev pub before_of : {R : Type 0} → SetBase R → World R
before_of b = resting b.records b.live b.waiting

-- The set with its history cleared.
abbrev pub folded : {R D : Type 0} → SetState R D → SetState R D
folded h = record h { base = record { records = h.records; live = h.live; waiting = h.waiting; tally = h.tally }; history = [] }

module _ {R : Type 0} (k : RecordRules R) where
  -- An event of a history, done on this database.
  abbrev pub done_by : World R → EventEntry → Stepped R
  done_by w entry = stepped k (listed entry.answers) (begun_at entry.moment w) entry.event

  -- The counts after these events.
  abbrev pub counted_on : Tally → World R → List EventEntry → Tally
  counted_on t w [] = t
  counted_on t w (entry ∷ entries) = let done = done_by w entry in counted_on (tallied t (begun_at entry.moment w) entry.event done) done.world entries

  -- The set after an event, with its devices afterwards.
  abbrev pub held_after : {D : Type 0} → SetState R D → EventEntry → Devices D → SetState R D
  held_after h entry devices =
      let done = done_by (now_of h) entry in
      record h {
        records = done.world.records;
        devices = devices;
        live = done.world.live;
        waiting = done.world.waiting;
        tally = tallied h.tally (begun_at entry.moment (now_of h)) entry.event done;
        history = h.history ++ entry ∷ [];
      }
