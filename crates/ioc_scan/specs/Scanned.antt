-- Scan lists in the order of PHAS, with equal PHAS in the order of adding. Record Reference Manual,
-- "Scan Fields", PHAS; Application Developer's Guide, "Scanning Specification".
use Rattle.std.specs.Prelude.{◌≡◌, ◌↔◌, ℕ, ◌+◌, ◌<◌, ℤ, ◌<ℤ◌, ◌⊎◌, List, Option, Some, Contains, replicate, slice_get, slice_set, nat_lt, if◌then◌else◌}
use Rattle.ioc_scan.specs.declared.list_name.ListName.{ListName}
use Rattle.ioc_scan.specs.declared.list_name.Placement.{Placement}
use Rattle.ioc_scan.specs.declared.position.Listed.{Listed}
use Rattle.ioc_scan.specs.declared.position.ListEntry.{ListEntry}
use Rattle.ioc_scan.specs.Positions.{new_entry, entry_of}

-- The entry of each record, and the last order number that was assigned.
pub record Scanned : Type 0 where
  pub entries : List ListEntry
  pub last : ℕ

-- The lists for `count` records, none of which is on a list.
abbrev pub new_lists : ℕ → Scanned
new_lists count = record { entries = replicate count new_entry; last = 0 }

-- The lists after a record is placed last at a place, or on no list. The number of its changes
-- stays the same.
abbrev pub placed : Scanned → ℕ → Option Placement → Scanned
placed s record_number place =
    record { entries = slice_set s.entries record_number (record { number = (entry_of s.entries record_number).number; place = place; order = s.last + 1 }); last = s.last + 1 }

-- The lists after a change of a record: it is placed last where the change says. A change with a
-- lower number than one that was applied already is ignored.
abbrev pub changed : Scanned → ℕ → ℕ → Option Placement → Scanned
changed s record_number number place =
    if nat_lt number (entry_of s.entries record_number).number then s
    else record { entries = slice_set s.entries record_number (record { number = number; place = place; order = s.last + 1 }); last = s.last + 1 }

-- The place of a record.
abbrev pub place_of : Scanned → ℕ → Option Placement
place_of s number = (entry_of s.entries number).place

-- Holds if the record is on the list, with this priority.
abbrev pub IsOn : Scanned → ListName → Listed → Type 0
IsOn s list x = (phase : ℤ) × (place_of s x.number ≡ Some (record { list = list; phase = phase; priority = x.priority }))

-- Holds if the first record comes before the second one, by PHAS and then by the order of adding.
abbrev pub Precedes : Scanned → ℕ → ℕ → Type 0
Precedes s a b =
    (p q : Placement) → place_of s a ≡ Some p → place_of s b ≡ Some q
    → (p.phase <ℤ q.phase) ⊎ ((p.phase ≡ q.phase) × ((entry_of s.entries a).order < (entry_of s.entries b).order))

-- Holds if these are the records on a list, each before those that it precedes.
pub record InPhaseOrder (s : Scanned) (list : ListName) (xs : List Listed) : Type 0 where
  pub members : (x : Listed) → Contains xs x ↔ IsOn s list x
  pub ordered : (i j : ℕ) (x y : Listed) → i < j → slice_get xs i ≡ Some x → slice_get xs j ≡ Some y → Precedes s x.number y.number
