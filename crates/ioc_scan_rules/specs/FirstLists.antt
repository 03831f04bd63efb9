-- The scan lists of a loaded database. Application Developer's Guide, "Scanning Specification":
-- scanInit, and records with PINI.
use Rattle.std.specs.Prelude.{◌≡◌, ◌↔◌, ℕ, ◌+◌, ◌<◌, ◌<ℤ◌, ◌⊎◌, List, [], ◌∷◌, length, slice_get, Contains, Bool, is_some, Option, Some}
use Rattle.std.specs.Prelude.{None as Nothing_}
use Rattle.ioc_menus.specs.declared.pini.Pini.TheVariants.{Yes}
use Rattle.ioc_scan.specs.declared.list_name.ListName.TheVariants.{Start}
use Rattle.ioc_scan.specs.declared.list_name.Placement.{Placement}
use Rattle.ioc_scan.specs.declared.position.Listed.{Listed}
use Rattle.ioc_scan.specs.Scanned.{Scanned, new_lists, placed}
use Rattle.ioc_scan.specs.Walked.{walked}
use Rattle.ioc_record.specs.RecordRules.{RecordRules}
use Rattle.ioc_scan_rules.specs.declared.places.Occasion.{Occasion}
use Rattle.ioc_scan_rules.specs.declared.places.Occasion.TheVariants.{Starting as When-starting}
use Rattle.ioc_scan_rules.specs.Places.{place_of}

-- The lists with record `n` added in its place, if it has one.
abbrev pub added : Scanned → ℕ → Option Placement → Scanned
added s n Nothing_ = s
added s n (Some place) = placed s n (Some place)

module _ {R : Type 0} (k : RecordRules R) where
  -- The lists with these records, from number `n` on, added one after another.
  abbrev pub with_each : Occasion → Scanned → ℕ → List R → Scanned
  with_each occasion s n [] = s
  with_each occasion s n (r ∷ rs) = with_each occasion (added s n (place_of k occasion r)) (1 + n) rs

  -- The lists with all records, added in the order of their numbers.
  unfoldable pub first_lists : Occasion → List R → Scanned
  first_lists occasion records = with_each occasion (new_lists (length records)) 0 records

  -- Whether a record is processed once at the start.
  abbrev pub is_starter : R → Bool
  is_starter r = is_some (place_of k When-starting r)

  -- The records that are processed once at the start, by PHAS, then by number.
  unfoldable pub starters : List R → List Listed
  starters records = walked (first_lists When-starting records) Start

  -- Holds if the member is a record with PINI, with its PRIO.
  abbrev pub HasPini : List R → Listed → Type 0
  HasPini records x =
      (r : R) × (slice_get records x.number ≡ Some r) × ((k.common r).scanning.at_start ≡ Yes)
      × (x.priority ≡ (k.common r).scanning.priority)

  -- Holds if the first of these records is processed before the second: by PHAS, then by number.
  abbrev pub StartsBefore : List R → ℕ → ℕ → Type 0
  StartsBefore records a b =
      (q r : R) → slice_get records a ≡ Some q → slice_get records b ≡ Some r
      → ((k.common q).scanning.phase <ℤ (k.common r).scanning.phase)
      ⊎ (((k.common q).scanning.phase ≡ (k.common r).scanning.phase) × (a < b))

  -- Holds if these are the records with PINI, in the order in which they are processed.
  pub record AreStarters (records : List R) (xs : List Listed) : Type 0 where
    pub members : (x : Listed) → Contains xs x ↔ HasPini records x
    pub ordered : (i j : ℕ) (x y : Listed) → i < j → slice_get xs i ≡ Some x → slice_get xs j ≡ Some y
        → StartsBefore records x.number y.number
