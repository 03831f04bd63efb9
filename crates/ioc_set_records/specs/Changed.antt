-- One change of all records of a set, and lists of the records that may have changed.
use Rattle.std.specs.Prelude.{◌≡◌, ℕ, List, Some, Contains, slice_get, map, true}
use Rattle.std.specs.FinMap.{entries, from_sorted, keys}
use Rattle.ioc_set_records.specs.declared.slots.Slot.{Slot}
use Rattle.ioc_set_records.specs.Contents.{Records}

module _ {R : Type 0} (f : R → R) where
  -- The slot with its record changed and marked so.
  abbrev pub slot_changed : {D : Type 0} → Slot R D → Slot R D
  slot_changed s = record s { fields = f s.fields; is_changed = true }

  -- The records, each changed.
  abbrev pub all_changed : Records R → Records R
  all_changed m = from_sorted (map (λ e. (e.0, f e.1)) (entries m))

-- Holds if one of these places, in the order of the numbers, is that of the record.
abbrev pub IsListed : {R : Type 0} → Records R → List ℕ → ℕ → Type 0
IsListed rs places n = (place : ℕ) × Contains places place × (slice_get (keys rs) place ≡ Some n)
