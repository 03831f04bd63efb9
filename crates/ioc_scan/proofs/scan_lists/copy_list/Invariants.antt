use Rattle.std.proofs.Common.{◌≡◌, ◌++◌}
use Rattle.std.specs.Map.{values_of}
use Rattle.ioc_scan.proofs.scan_lists.copy_list.Given as goal

-- The records written so far and those that are left are together all that the list has.
abbrev pub invariant-loop-listed : goal.invariant-loop-listed
invariant-loop-listed l = l.into.items ++ values_of l.listed-iterator ≡ l.initial.into.items ++ values_of l.initial.listed-iterator
