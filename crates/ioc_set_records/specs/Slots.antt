-- The maps that the slots of a set represent.
use Rattle.std.specs.Prelude.{ℕ, List, [], ◌∷◌, ◌<◌, map, filter_map, Option}
use Rattle.std.specs.Option.{option_map}
use Rattle.std.specs.FinMap.{from_entries}
use Rattle.ioc_set_records.specs.declared.slots.Slot.{Slot}
use Rattle.ioc_set_records.specs.Contents.{Records, Devices, Contents}

module _ {R D : Type 0} where
  abbrev pub record_entry : Slot R D → ℕ × R
  record_entry s = (s.number, s.fields)

  abbrev pub device_entry : Slot R D → Option (ℕ × D)
  device_entry s = option_map (λ d. (s.number, d)) s.device

  abbrev pub base_entry : Slot R D → ℕ × R
  base_entry s = (s.number, s.base)

  -- The map of the records.
  abbrev pub records_of : List (Slot R D) → Records R
  records_of slots = from_entries (map record_entry slots)

  -- The map of their devices.
  abbrev pub devices_of : List (Slot R D) → Devices D
  devices_of slots = from_entries (filter_map device_entry slots)

  -- The map of their bases.
  abbrev pub bases_of : List (Slot R D) → Records R
  bases_of slots = from_entries (map base_entry slots)

  abbrev pub contents_of : List (Slot R D) → Contents R D
  contents_of slots = record { records = records_of slots; devices = devices_of slots; base = bases_of slots }

  abbrev pub numbers_of : List (Slot R D) → List ℕ
  numbers_of slots = map (λ s. s.number) slots

  -- Holds if the number is below that of every slot.
  abbrev pub IsBelow : ℕ → List (Slot R D) → Type 0
  IsBelow n [] = Unit {0}
  IsBelow n (s ∷ ss) = (n < s.number) × IsBelow n ss

  -- Holds if the numbers ascend from slot to slot.
  abbrev pub AreAscending : List (Slot R D) → Type 0
  AreAscending [] = Unit {0}
  AreAscending (s ∷ ss) = IsBelow s.number ss × AreAscending ss
