use Rattle.std.proofs.Common.{◌≡◌, take}
use Rattle.ioc_set_records.specs.Edges.{edges_in, slots_relinked}
use Rattle.ioc_set_records.proofs.links.edges_with.Given as goal

abbrev pub invariant-loop-i : goal.invariant-loop-i
invariant-loop-i g l =
    let k = g.K.RecordKind.rules in l.edges.items ≡ edges_in k (take l.i (slots_relinked k l.slots l.place l.changed l.link))
