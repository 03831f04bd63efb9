-- A base, as the database from which the entries of a file lead on, and where they begin.
use Rattle.std.specs.Prelude.{ℕ, ◌↔◌, ◌<◌, ◌+◌, ◌==◌, IsTrue, IsSome, if◌then◌else◌, List, [], ◌∷◌, Option, Some, None}
use Rattle.ioc_notify.specs.declared.live_numbers.Live.{Live}
use Rattle.ioc_notify.specs.declared.waiting_lists.Waiting.{Waiting}
use Rattle.ioc_notify.specs.Living.{is_live, begun, gained}
use Rattle.ioc_journal_base.specs.declared.bases.DeskCalls.{DeskCalls}
use Rattle.ioc_dbfile.specs.FirstWorld.{first_world}
use Rattle.ioc_store.specs.World.{World}
use Rattle.ioc_record.specs.RecordRules.{targets}
use Rattle.rec_types.specs.Record.{Record, record_rules}
use Rattle.ioc_journal_audit.specs.Numbering.{Start}

-- One more record or waiting list is part of the put with notification of this number, which is live
-- then.
abbrev pub held : ℕ → List Live → List Live
held number live = if is_live number live then gained number live else begun number live

abbrev pub held_if : Option ℕ → List Live → List Live
held_if None live = live
held_if (Some number) live = held number live

-- The live puts with notification after the records that are part of them are counted.
abbrev pub held_by_records : List Record → List Live → List Live
held_by_records [] live = live
held_by_records (r ∷ rs) live = held_by_records rs (held_if r.common.notification live)

-- The same of those that wait.
abbrev pub held_by_waiting : List Waiting → List Live → List Live
held_by_waiting [] live = live
held_by_waiting (w ∷ ws) live = held_by_waiting ws (held w.number live)

-- The live puts with notification of a base: those of which a record is part, or which wait.
abbrev pub live_of : List Record → List Waiting → List Live
live_of records waiting = held_by_waiting waiting (held_by_records records [])

-- A database before the next event, with these puts with notification.
unfoldable pub world_with : List Record → List Live → List Waiting → World Record
world_with records live waiting = record (first_world records) { live = live; waiting = waiting }

-- The database of a base.
abbrev pub base_world : List Record → List Waiting → World Record
base_world records waiting = world_with records (live_of records waiting) waiting

-- How many calls a desk has made.
abbrev pub calls_of : List DeskCalls → ℕ → ℕ
calls_of [] desk = 0
calls_of (d ∷ ds) desk = (if d.desk == desk then d.calls else 0) + calls_of ds desk

-- Where the entries behind a base begin.
abbrev pub start_of : ℕ → List DeskCalls → Start
start_of place desks = record { place = place; calls = calls_of desks }

-- Holds if each of these numbers is below the other one.
abbrev pub AllBelow : ℕ → List ℕ → Type 0
AllBelow count [] = Unit {0}
AllBelow count (n ∷ ns) = (n < count) × AllBelow count ns

-- Holds of a record between events among so many records: its links lead to these alone, and it is active
-- exactly if a completion of it is pending.
pub record IsSettledRecord (count : ℕ) (r : Record) : Type 0 where
  pub below : AllBelow count (targets record_rules r)
  pub quiet : IsTrue r.common.active ↔ IsSome r.common.pending

abbrev pub AllSettled : ℕ → List Record → Type 0
AllSettled count [] = Unit {0}
AllSettled count (r ∷ rs) = IsSettledRecord count r × AllSettled count rs
