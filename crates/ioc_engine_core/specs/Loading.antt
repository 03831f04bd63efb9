-- A loaded database before its first event. Application Developer's Guide, "Database Locking,
-- Scanning, and Processing": records that are connected by links are in one lock set.
use Rattle.std.specs.Prelude.{◌≡◌, ℕ, ◌+◌, ◌-◌, ◌^◌, ◌<◌, ◌≤◌, false, Option, None, List, [], map, length, All, slice_get, slice_index, slice_index_or}
use Rattle.std.specs.Option.{option_and_then}
use Rattle.ioc_ledger.specs.Requests.{no_counts}
use Rattle.ioc_ledger.specs.Shared.{ShareView}
use Rattle.ioc_record.specs.RecordRules.{RecordRules}
use Rattle.ioc_set_records.specs.Contents.{Contents, nothing}
use Rattle.ioc_set_records.specs.Joined.{links_of, IsPart}
use Rattle.ioc_store.specs.OneMap.{numbered}
use Rattle.ioc_store.specs.World.{World}
use Rattle.ioc_journal.specs.Key.{Key, Has}
use Rattle.ioc_set.specs.Resting.{resting}
use Rattle.ioc_set_records.specs.declared.loaded.Loaded.{Loaded}
use Rattle.ioc_set_records.specs.Dealing.{HasPart}
use Rattle.ioc_set_records.specs.Linked.{AreParts}

-- Holds of the parts of the ledgers of counts that are left beside one for each of so many records.
pub record IsSpare (spare : ShareView) (count : ℕ) : Type 0 where
  pub parts : spare.parts + count ≡ 2 ^ 64 - 1
  pub counts : spare.counts ≡ no_counts

-- The world at the load, in which the records are numbered by their places.
abbrev pub loaded_world : {R D : Type 0} → List (Loaded R D) → World R
loaded_world all = resting (numbered (map (λ l. l.fields) all)) [] []

-- The device of the record at a place.
abbrev pub device_in : {R D : Type 0} → List (Loaded R D) → ℕ → Option D
device_in all number = option_and_then (λ l. l.device) (slice_get all number)

-- Holds if each record has the device at its place, or none if there is none at that place.
abbrev pub HaveDevices : {R D : Type 0} → List (Loaded R D) → List (Option D) → Type 0
HaveDevices all devices = (i : ℕ) (l : Loaded _ _) → i < length all → (slice_index_or all i l).device ≡ slice_index_or devices i None

-- Holds if these are keys of records of parts with lower numbers.
abbrev pub AreOfPartsBelow : List ℕ → ℕ → List Key → Type 0
AreOfPartsBelow parts part keys = (key : Key) → Has key keys → (key.0 ≡ 0) × (slice_index parts key.1 < part)

-- Holds of a record as it is loaded: it is idle, awaits no completion, and is part of no put with
-- notification.
pub record IsIdle {R : Type 0} (k : RecordRules R) (r : R) : Type 0 where
  pub inactive : (k.common r).active ≡ false
  pub nothing_awaited : (k.common r).pending ≡ None
  pub free : (k.common r).notification ≡ None

module _ {R D : Type 0} (k : RecordRules R) where
  -- Holds if the world is that of these records, which are idle, `had` tells of their devices, and
  -- their links make these parts.
  pub record IsAtRest (base : World R) (had : ℕ → Option D → Type 0) (parts : List ℕ) (all : List (Loaded R D)) : Type 0 where
    pub world : base ≡ loaded_world all
    pub devices : (n : ℕ) → had n (device_in all n)
    pub idle : All (λ l. IsIdle k l.fields) all
    pub parts_are : AreParts k all parts

  -- Holds of a set with the records of one part of such a world.
  pub record IsSetOf (base : World R) (had : ℕ → Option D → Type 0) (parts : List ℕ) (part : ℕ) (members : Contents R D) : Type 0 where
    pub all : List (Loaded R D)
    pub rest : IsAtRest base had parts all
    pub has : HasPart all parts part members
    pub one_part : IsPart (links_of k members.records)

  -- Holds of sets of which each, from a number on, has the records of the part with its number.
  pub record AreSetsFrom (base : World R) (had : ℕ → Option D → Type 0) (parts : List ℕ) (from : ℕ) (sets : List (Contents R D)) : Type 0 where
    pub all : List (Loaded R D)
    pub rest : IsAtRest base had parts all
    pub each : (part : ℕ) → from ≤ part → part < length sets → HasPart all parts part (slice_index_or sets part nothing)
    pub one_part : (part : ℕ) → from ≤ part → part < length sets → IsPart (links_of k (slice_index_or sets part nothing).records)
