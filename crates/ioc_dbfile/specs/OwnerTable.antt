-- The table of the owners of devices.
use Rattle.std.specs.Prelude.{ℕ, nat_eq, List, Option, Some, None}
use Rattle.std.specs.Cmp.Lexicographic.{pointwise}
use Rattle.std.specs.HashMap.{get}
use Rattle.ioc_dbfile.specs.declared.owners.Owners.{Owners}

-- The owner of the device with this name.
unfoldable pub owner_in : Owners → List ℕ → Option ℕ
owner_in owners text = get (pointwise nat_eq) owners.numbers text

-- The first number, or else the second.
abbrev pub or_else : Option ℕ → Option ℕ → Option ℕ
or_else None other = other
or_else (Some n) other = Some n
