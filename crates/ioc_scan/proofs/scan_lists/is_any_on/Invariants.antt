use Rattle.std.proofs.Common.{◌≡◌, ℕ, ◌-◌, ◌<◌, Some, length}
use Rattle.ioc_scan.specs.declared.list_name.Placement.{Placement}
use Rattle.ioc_scan.specs.Positions.{entry_of}
use Rattle.ioc_scan.proofs.scan_lists.is_any_on.Given as goal

-- No record from the first number up to this one is on the list.
abbrev pub invariant-loop-number : goal.invariant-loop-number
invariant-loop-number l = (n : ℕ) (p : Placement) → (entry_of l.entries n).place ≡ Some p → p.list ≡ l.list → n < l.number → n < l.from

abbrev pub decreases-loop-number : goal.decreases-loop-number
decreases-loop-number l = length l.entries - l.number
