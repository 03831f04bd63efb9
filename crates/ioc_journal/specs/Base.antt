-- The records of all lock sets at a checkpoint of the journal, as copies. Application Developer's
-- Guide, "Database Locking, Scanning, and Processing", lock sets. The journal is this project's own.
use Rattle.std.specs.Prelude.{◌≡◌, ℕ, List, Option, None, slice_index_or}
use Rattle.std.specs.FinMap.{get}
use Rattle.ioc_notify.specs.Waits.{at_record}
use Rattle.ioc_notify.specs.declared.waiting_lists.Waiting.{Waiting}
use Rattle.ioc_store.specs.World.{World, Has}

-- Holds if these are the records of a world, each at the place of its number, and the puts with
-- notification that wait for them.
pub record IsBaseOf {R : Type 0} (w : World R) (records : List (Option R)) (waiting : List Waiting) : Type 0 where
  pub records_are : (n : ℕ) → get w.records n ≡ slice_index_or records n None
  pub waiting_are : (n : ℕ) → Has w n → at_record n w.waiting ≡ at_record n waiting
