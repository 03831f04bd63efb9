-- The position of a record on its scan list.
use Rattle.std.specs.Prelude.{ℕ, List, None, slice_index_or}
use Rattle.ioc_scan.specs.declared.list_name.Placement.{Placement}
use Rattle.ioc_scan.specs.declared.position.Position.{Position}
use Rattle.ioc_scan.specs.declared.position.Listed.{Listed}
use Rattle.ioc_scan.specs.declared.position.ListEntry.{ListEntry}

-- The position of a record at this place, added with this order number.
abbrev pub position : Placement → ℕ → Position
position p order = record { list = p.list; phase = p.phase; order = order }

-- The list member for a record at this place.
abbrev pub listed : ℕ → Placement → Listed
listed number p = record { number = number; priority = p.priority }

-- The entry of a record before its first change.
abbrev pub new_entry : ListEntry
new_entry = record { number = 0; place = None; order = 0 }

-- The entry of a record, by its number.
abbrev pub entry_of : List ListEntry → ℕ → ListEntry
entry_of entries number = slice_index_or entries number new_entry
