-- The members of a scan list, in the order in which the list is walked. Record Reference Manual,
-- "Scan Fields", PHAS; Application Developer's Guide, "Scanning Specification".
use Rattle.std.specs.Prelude.{ℕ, ◌+◌, List, [], ◌∷◌, ◌++◌, Option, Some, None}
use Rattle.std.specs.FinMap.{entries, from_entries}
use Rattle.ioc_scan.specs.contracts.position.PositionOrd.TheImpl as order_of
use Rattle.ioc_scan.specs.declared.list_name.ListName.{ListName}
use Rattle.ioc_scan.specs.declared.list_name.Placement.{Placement}
use Rattle.ioc_scan.specs.declared.position.Position.{Position}
use Rattle.ioc_scan.specs.declared.position.Listed.{Listed}
use Rattle.ioc_scan.specs.declared.position.ListEntry.{ListEntry}
use Rattle.ioc_scan.specs.Positions.{position, listed}
use Rattle.ioc_scan.specs.Scanned.{Scanned}
use Rattle.ioc_scan.specs.Standing.{standing}

-- Record `n` with its position, if it is on a list.
abbrev pub standing_by : ℕ → Option Placement → ℕ → List (Position × Listed)
standing_by n None order = []
standing_by n (Some p) order = (position p order, listed n p) ∷ []

-- The records `n`, `n + 1` and so on that are on lists, with their positions.
abbrev pub all_standing : ℕ → List ListEntry → List (Position × Listed)
all_standing n [] = []
all_standing n (e ∷ es) = standing_by n e.place e.order ++ all_standing (1 + n) es

-- The records on one list, in the order of their positions: by PHAS, then by the order of adding.
unfoldable pub walked : Scanned → ListName → List Listed
walked s list = standing list (entries (from_entries {R = order_of.ghosts.cmp} (all_standing 0 s.entries)))
