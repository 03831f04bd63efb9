use Rattle.std.proofs.Common.{◌≡◌, take}
use Rattle.ioc_set_records.specs.Edges.{edges_in}
use Rattle.ioc_set_records.proofs.links.edges_of.Given as goal

abbrev pub invariant-loop-slot : goal.invariant-loop-slot
invariant-loop-slot g l = let k = g.K.RecordKind.rules in l.edges.items ≡ edges_in k (take l.slot-index l.slots)
