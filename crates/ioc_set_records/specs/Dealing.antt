-- The records of a loaded database, assigned to sets by the numbers of their parts.
--
-- Application Developer's Guide, "Database Locking, Scanning, and Processing": records that links
-- join are in one lock set.
use Rattle.std.specs.Prelude.{ℕ, ◌≡◌, ◌<◌, ◌==◌, List, length, Option, None, if◌then◌else◌, slice_get, slice_index, slice_index_or}
use Rattle.std.specs.Option.{option_map, option_and_then}
use Rattle.std.specs.FinMap.{get, insert}
use Rattle.ioc_set_records.specs.Contents.{Contents, nothing, with_device}
use Rattle.ioc_set_records.specs.declared.loaded.Loaded.{Loaded}

module _ {R D : Type 0} where
  -- The record that the set of a part has at a number: the one of the database, if it is in that
  -- part.
  abbrev pub dealt_at : List (Loaded R D) → List ℕ → ℕ → ℕ → Option (Loaded R D)
  dealt_at all parts part number = if slice_index parts number == part then slice_get all number else None

  -- A set has exactly the records of its part, each with its device and equal to its base.
  pub record HasPart (all : List (Loaded R D)) (parts : List ℕ) (part : ℕ) (members : Contents R D) : Type 0 where
    pub records : (number : ℕ) → get members.records number ≡ option_map (λ l. l.fields) (dealt_at all parts part number)
    pub devices : (number : ℕ) → get members.devices number ≡ option_and_then (λ l. l.device) (dealt_at all parts part number)
    pub base : members.base ≡ members.records

  -- There are as many sets as records, and each has the records of its part.
  pub record AreDealt (all : List (Loaded R D)) (parts : List ℕ) (sets : List (Contents R D)) : Type 0 where
    pub one_each : length sets ≡ length all
    pub each : (part : ℕ) → part < length all → HasPart all parts part (slice_index_or sets part nothing)

  -- The set with one more record, which equals its base.
  abbrev pub with_loaded : Contents R D → ℕ → Loaded R D → Contents R D
  with_loaded members number loaded = record {
    records = insert members.records number loaded.fields;
    devices = with_device members.devices number loaded.device;
    base = insert members.base number loaded.fields;
  }
