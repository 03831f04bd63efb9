use Rattle.std.proofs.Common.{take}
use Rattle.ioc_topology.specs.Gathered.{AreFound}
use Rattle.ioc_topology.proofs.gather.hold_each.Given as goal

abbrev pub invariant-loop-set : goal.invariant-loop-set
invariant-loop-set g l = AreFound g.S.Locked.numbers l.marks (take l.set-index l.sets)
