-- The watched records of a lock set. Application Developer's Guide, "Database Monitors": who monitors a record is told of its
-- changes. That a record is marked until it is told, in place of a queue of values, is this project's own.
use Rattle.std.specs.Prelude.{◌≡◌, ◌==◌, ℕ, Bool, true, false, not, if◌then◌else◌, List, [], map, All, Contains, IsTrue, Option, Some, None, Box}
use Rattle.std.specs.List.{filter}
use Rattle.std.specs.FinMap.{contains_key}
use Rattle.ioc_record.specs.RecordRules.{RecordRules}
use Rattle.ioc_set_records.specs.Contents.{Records, record_at}
use Rattle.ioc_store.specs.World.{World}
use Rattle.ioc_journal.specs.declared.entry.Note.{Note}
use Rattle.ioc_journal.specs.Legal.{map_of}

-- A watched record: the calls up to which it was told last, and whether it is marked, since it may have changed after them.
pub record WatchedRecord : Type 0 where
  pub number : ℕ
  pub told : List Note
  pub is_marked : Bool

-- The record and the calls up to which it was told.
abbrev pub told_up_to : WatchedRecord → ℕ × List Note
told_up_to w = (w.number, w.told)

-- The watched records of a set, of which there are none without a list.
abbrev pub watched_by : {Z : Type 0} → Option (Box (List WatchedRecord) Z) → List WatchedRecord
watched_by None = []
watched_by (Some place) = place.value

-- The same records are watched, each told up to the same calls.
abbrev pub StayWatched : List WatchedRecord → List WatchedRecord → Type 0
StayWatched before after = map told_up_to after ≡ map told_up_to before

-- Holds if one of the watched records has this number.
abbrev pub IsWatched : ℕ → List WatchedRecord → Type 0
IsWatched n ws = (w : WatchedRecord) × Contains ws w × (w.number ≡ n)

abbrev pub is_number : ℕ → WatchedRecord → Bool
is_number n w = w.number == n

-- A record that is watched from now on, and wasn't told yet: it is marked.
abbrev pub newly_watched : ℕ → List Note → WatchedRecord
newly_watched n seen = record { number = n; told = seen; is_marked = true }

-- The watched record as it is once it was told up to these calls, if it has this number.
abbrev pub told_now : ℕ → List Note → WatchedRecord → WatchedRecord
told_now n seen w = if is_number n w then record { number = w.number; told = seen; is_marked = false } else w

-- The watched records without the one with this number.
abbrev pub unwatched : ℕ → List WatchedRecord → List WatchedRecord
unwatched n ws = filter (λ w. not (is_number n w)) ws

abbrev pub marked : WatchedRecord → WatchedRecord
marked w = record w { is_marked = true }

module _ {R : Type 0} (k : RecordRules R) (base : World R) where
  -- Holds of a watched record of a set with these records if it is marked, or if what was told of it last, after the calls up to
  -- then, is what the record is now.
  pub record IsFresh (now : Records R) (w : WatchedRecord) : Type 0 where
    pub here : IsTrue (contains_key now w.number)
    pub fresh : w.is_marked ≡ false → record_at k (map_of k base w.told).records w.number ≡ record_at k now w.number

  abbrev pub AreFresh : Records R → List WatchedRecord → Type 0
  AreFresh now ws = All (IsFresh now) ws
