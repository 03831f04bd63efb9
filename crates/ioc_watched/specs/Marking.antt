-- The marks of watched records after an event. This project's own.
use Rattle.std.specs.Prelude.{◌≡◌, ◌<◌, ℕ, false, List, length, slice_index_or}
use Rattle.ioc_record.specs.RecordRules.{RecordRules}
use Rattle.ioc_set_records.specs.Contents.{Records, record_at}
use Rattle.ioc_watched.specs.Watched.{WatchedRecord, told_up_to}

module _ {R : Type 0} (k : RecordRules R) (before now : Records R) where
  -- The record is watched on, and it is marked unless it wasn't marked before and is now what it was before the event.
  pub record IsMarkedOn (w then : WatchedRecord) : Type 0 where
    pub same : told_up_to then ≡ told_up_to w
    pub kept : then.is_marked ≡ false → (w.is_marked ≡ false) × (record_at k before w.number ≡ record_at k now w.number)

  -- So is each of these.
  pub record AreMarkedOn (ws then : List WatchedRecord) : Type 0 where
    pub count : length then ≡ length ws
    pub each : (i : ℕ) (d e : WatchedRecord) → i < length ws → IsMarkedOn (slice_index_or ws i d) (slice_index_or then i e)
