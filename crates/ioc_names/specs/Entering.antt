-- A name is found, or else entered for a new record.
use Rattle.std.specs.Prelude.{ℕ, List, Option, Some, None}
use Rattle.std.specs.Ordering.{nat_cmp}
use Rattle.std.specs.Cmp.Lexicographic.{slice_cmp}
use Rattle.std.specs.FinMap.{FinMap, insert}
use Rattle.ioc_names.specs.declared.entered.Entered.{Entered}
use Rattle.ioc_names.specs.declared.entered.Entered.TheVariants.{Before, Now}
use Rattle.ioc_names.specs.NameTable.{NameTable, number_of, added}

-- The number that was found, or else the next one.
abbrev pub found_or_next : Option ℕ → ℕ → Entered
found_or_next (Some number) next = Before number
found_or_next None next = Now next

-- The result of entering a name: a record has the name, or a new record gets it.
abbrev pub entry_of : NameTable → List ℕ → Entered
entry_of t name = found_or_next (number_of t name) t.count

-- The table if the name was found, or else the table with a new record of that name.
abbrev pub found_or_added : Option ℕ → NameTable → List ℕ → NameTable
found_or_added (Some number) t name = t
found_or_added None t name = added t name

-- The table after entering a name that may be there already.
abbrev pub entered : NameTable → List ℕ → NameTable
entered t name = found_or_added (number_of t name) t name

-- The map if the name was found, or else the map with the name inserted.
abbrev pub or_inserted : Option ℕ → FinMap (slice_cmp nat_cmp) ℕ → List ℕ → ℕ → FinMap (slice_cmp nat_cmp) ℕ
or_inserted (Some found) m name number = m
or_inserted None m name number = insert m name number
