-- Copies of the records of lock sets, for the base of the journal. This project's own.
use Rattle.std.specs.Prelude.{◌≡◌, ◌<◌, ℕ, List, Option, Some, None, IsSome, Contains, Any, length, slice_index_or}
use Rattle.std.specs.Option.{option_or}
use Rattle.std.specs.FinMap.{get}
use Rattle.ioc_notify.specs.Waits.{at_record}
use Rattle.ioc_store.specs.World.{World}
use Rattle.ioc_journal.specs.Covering.{WaitsWithin}
use Rattle.ioc_set.specs.SetState.{now_of}
use Rattle.ioc_set_records.specs.Contents.{Records}
use Rattle.ioc_journaled_set.specs.Holding.{HeldView, numbers_of}

-- Holds if no place of the list has a record.
abbrev pub AreEmpty : {R : Type 0} → List (Option R) → Type 0
AreEmpty places = (n : ℕ) → slice_index_or places n None ≡ None

-- Holds if each copy is that of the record of its number in one of these sets, and each of their
-- records whose number is within the list has its copy.
pub record AreCopies {R D : Type 0} (sets : List (HeldView R D)) (copies : List (Option R)) : Type 0 where
  pub of_set : (n : ℕ) (r : R) → slice_index_or copies n None ≡ Some r → Any (λ (h : HeldView R D). get h.set.records n ≡ Some r) sets
  pub each : (n : ℕ) → n < length copies → Any (λ (h : HeldView R D). Contains (numbers_of h) n) sets → IsSome (slice_index_or copies n None)

-- Holds if each of these records was copied to the place of its number, if that is within the list,
-- and all other places are unchanged.
abbrev pub AreCopied : {R : Type 0} → Records R → List (Option R) → List (Option R) → Type 0
AreCopied records before after = (n : ℕ) → n < length before → slice_index_or after n None ≡ option_or (get records n) (slice_index_or before n None)

-- Holds if the world has the records of the set as they are in the set, each with its waiting list,
-- and nothing in the set waits for other records.
pub record IsIn {R D : Type 0} (m : World R) (h : HeldView R D) : Type 0 where
  pub records : (n : ℕ) → IsSome (get h.set.records n) → get m.records n ≡ get h.set.records n
  pub waiting : (n : ℕ) → IsSome (get h.set.records n) → at_record n m.waiting ≡ at_record n h.set.waiting
  pub within : WaitsWithin (now_of h.set)
