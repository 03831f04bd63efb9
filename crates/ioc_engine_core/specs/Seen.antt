-- The records of a lock set, as they were seen under its lock. Application Developer's Guide,
-- "Database Locking, Scanning, and Processing", lock sets. The journal is this project's own.
use Rattle.std.specs.Prelude.{◌≡◌, ℕ, List}
use Rattle.ioc_record.specs.RecordRules.{RecordRules}
use Rattle.ioc_store.specs.World.{World}
use Rattle.ioc_journal.specs.declared.entry.Note.{Note}
use Rattle.ioc_journal.specs.Account.{IsAccount}
use Rattle.ioc_journal.specs.Line.{Begins}
use Rattle.ioc_journaled_set.specs.Holding.{HeldView, numbers_of, IsSoundlyHeld}

-- Holds if these are the numbers of the records of a sound set, as it was after the calls of a legal
-- list. A desk had seen a beginning of that list before, and has seen all of it since.
pub record IsPartSeen {R : Type 0} (D : Type 0) (k : RecordRules R) (base : World R) (before after : List Note) (numbers : List ℕ) : Type 0 where
  pub held : HeldView R D
  pub sound : IsSoundlyHeld k base held
  pub all : numbers ≡ numbers_of held
  pub legal : IsAccount k base held.seen
  pub no_older : Begins before held.seen
  pub known : Begins held.seen after
