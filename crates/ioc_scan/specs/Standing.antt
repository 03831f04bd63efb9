-- The members of one list: the part of the tree between the bounds of the list.
use Rattle.std.specs.Prelude.{Bool, List, pos, negsuc}
use Rattle.std.specs.declared.ops.Bound.TheVariants.{Included}
use Rattle.std.specs.Map.{values_of}
use Rattle.std.specs.BTreeMap.Range.{range_contains, entries_between}
use Rattle.ioc_scan.specs.contracts.position.PositionOrd.TheImpl as order_of
use Rattle.ioc_scan.specs.declared.list_name.ListName.{ListName}
use Rattle.ioc_scan.specs.declared.position.Position.{Position}
use Rattle.ioc_scan.specs.declared.position.Listed.{Listed}

-- The lower bound of the positions on the list.
abbrev pub low : ListName → Position
low list = record { list = list; phase = negsuc 32767; order = 0 }

-- The upper bound of the positions on the list.
abbrev pub high : ListName → Position
high list = record { list = list; phase = pos 32767; order = 18446744073709551615 }

-- Whether the position is between the bounds.
abbrev pub within : ListName → Position → Bool
within list k = range_contains order_of.ghosts.cmp (Included (low list)) (Included (high list)) k

-- The records between the bounds, in order.
abbrev pub standing : ListName → List (Position × Listed) → List Listed
standing list es = values_of (entries_between order_of.ghosts.cmp (Included (low list)) (Included (high list)) es)
