-- The records of an engine that was stopped. This project's own.
use Rattle.std.specs.Prelude.{◌≡◌, ℕ, Option, List, [], ◌∷◌, ◌++◌, map}
use Rattle.rec_types.specs.Record.{Record}
use Rattle.ioc_set_records.specs.declared.slots.Slot.{Slot}
use Rattle.ioc_set_records.specs.Slots.{AreAscending, records_of, devices_of}
use Rattle.ioc_journaled_set.specs.Holding.{HeldView, KeepsDevices}
use Rattle.ioc_engine.specs.declared.report.StoppedRecord.{StoppedRecord}

module _ {D : Type 0} where
  -- The record of a slot with its number and its device.
  abbrev pub stopped_of : Slot Record D → StoppedRecord D
  stopped_of s = record { number = s.number; fields = s.fields; device = s.device }

  -- Holds if these are the records of a lock set with their devices, in ascending order of their
  -- numbers, and each has its own device, of which `had` tells, or none if it had none.
  pub record AreOfSet (had : ℕ → Option D → Type 0) (h : HeldView Record D) (all : List (StoppedRecord D)) : Type 0 where
    pub slots : List (Slot Record D)
    pub are : all ≡ map stopped_of slots
    pub ascending : AreAscending slots
    pub records : records_of slots ≡ h.set.records
    pub devices : devices_of slots ≡ h.set.devices
    pub own : KeepsDevices had h.set

  -- Holds if these are the records of the lock sets with their devices, one set after another.
  abbrev pub GivesBack : (ℕ → Option D → Type 0) → List (HeldView Record D) → List (StoppedRecord D) → Type 0
  GivesBack had [] all = all ≡ []
  GivesBack had (h ∷ hs) all = (first rest : List (StoppedRecord D)) × (all ≡ first ++ rest) × AreOfSet had h first × GivesBack had hs rest
