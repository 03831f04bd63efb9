use Rattle.std.proofs.Common.{ℕ, take}
use Rattle.std.specs.Prelude.{◌⊎◌, Contains}
use Rattle.ioc_topology.specs.Gathered.{IsMarked}
use Rattle.ioc_engine_core.proofs.parts.mark_all.Given as goal

abbrev pub invariant-loop-number : goal.invariant-loop-number
invariant-loop-number l = (q : ℕ) → IsMarked l.marks.items q → IsMarked l.fn.marks.items q ⊎ Contains (take l.number-index l.numbers) q
