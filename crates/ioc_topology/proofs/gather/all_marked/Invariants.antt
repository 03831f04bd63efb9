use Rattle.std.proofs.Common.{ℕ, ◌<◌}
use Rattle.ioc_topology.specs.Gathered.{IsMarked}
use Rattle.ioc_topology.proofs.gather.all_marked.Given as goal

abbrev pub invariant-loop-number : goal.invariant-loop-number
invariant-loop-number l = (q : ℕ) → q < l.number → IsMarked l.marks q
