use Rattle.std.proofs.Common.{take}
use Rattle.ioc_topology.specs.Gathered.{IsClaimed}
use Rattle.ioc_topology.proofs.gather.claim.Given as goal

abbrev pub invariant-loop-place : goal.invariant-loop-place
invariant-loop-place g l = IsClaimed l.fn.marks l.marks (take l.place (g.S.Locked.numbers l.set))
