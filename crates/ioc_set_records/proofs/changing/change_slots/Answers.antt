use Rattle.ioc_set_records.proofs.AllChanged.{one_changed}
use Rattle.ioc_set_records.proofs.changing.change_slots.Goals as goal

pub loop-slot-preserved : goal.loop-slot-preserved
loop-slot-preserved g c =
    one_changed (g.C.Change.changed c.args.by.now) c.args.slots.now c.loop-slot.slots c.loop-slot.slot-index c.slot-item.result c.apply.new.item c.loop-slot-test.true c.loop-slot.invariant c.slot-item.is c.apply.ensures
