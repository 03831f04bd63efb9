use Rattle.std.proofs.Common.{ℕ, ◌-◌, length}
use Rattle.ioc_scan.specs.Members.{AreIndexed}
use Rattle.ioc_scan.proofs.scan_lists.index_all.Given as goal

-- The records so far are indexed, if those before were.
abbrev pub invariant-loop-indexed : goal.invariant-loop-indexed
invariant-loop-indexed l = (last : ℕ) → AreIndexed l.initial.entries last l.initial.indexed l.initial.members → AreIndexed l.entries last l.indexed l.members

abbrev pub decreases-loop-indexed : goal.decreases-loop-indexed
decreases-loop-indexed l = length l.entries - l.indexed
