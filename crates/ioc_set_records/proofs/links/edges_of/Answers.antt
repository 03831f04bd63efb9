use Rattle.std.proofs.Common.{sym}
use Rattle.ioc_set_records.proofs.EdgeLaws.{slot_more}
use Rattle.ioc_set_records.proofs.links.edges_of.Goals as goal

pub loop-slot-preserved : goal.loop-slot-preserved
loop-slot-preserved g c =
    slot_more g.K.RecordKind.rules c.loop-slot.edges.items c.add_links.new.edges.items c.args.slots.now c.loop-slot.slot-index c.slot-item.result c.loop-slot-test.true (sym c.slot-item.is)
    c.loop-slot.invariant c.in_ok-add_links.ensures
