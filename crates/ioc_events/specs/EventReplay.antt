-- A list of events, one after another, as rules over whole databases.
--
-- Application Developer's Guide, "Runtime Database Access".
use Rattle.std.specs.Prelude.{◌≡◌, List, [], ◌∷◌}
use Rattle.ioc_ledger.specs.Requests.{Requests}
use Rattle.ioc_record.specs.RecordRules.{RecordRules}
use Rattle.ioc_store.specs.World.{World, begun_at}
use Rattle.ioc_store.specs.Given.{answers_of, listed}
use Rattle.ioc_events.specs.declared.event.EventEntry.{EventEntry}
use Rattle.ioc_events.specs.StepRules.{Step}

module _ {R : Type 0} (k : RecordRules R) where
  -- The events of a list lead from one database to another, each at its time stamp, with its reply,
  -- and with all its answers used.
  pub data Replay : World R → List EventEntry → World R → Type 0 where
    at_the_end : {w : World R} → Replay w [] w
    and_then : {w w' w'' : World R} {entry : EventEntry} {entries : List EventEntry} {requests : Requests}
        → Step k (listed entry.answers) (begun_at entry.moment w) entry.event w' entry.reply requests
        → answers_of w'.calls ≡ entry.answers
        → Replay w' entries w''
        → Replay w (entry ∷ entries) w''
