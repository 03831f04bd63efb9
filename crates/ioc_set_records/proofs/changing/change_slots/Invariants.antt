use Rattle.std.proofs.Common.{◌≡◌, ◌++◌, map, take, drop}
use Rattle.ioc_set_records.specs.Changed.{slot_changed}
use Rattle.ioc_set_records.proofs.changing.change_slots.Given as goal

-- The records visited so far are changed.
abbrev pub invariant-loop-slot : goal.invariant-loop-slot
invariant-loop-slot g l = let f = slot_changed (g.C.Change.changed l.by) in l.slots ≡ map f (take l.slot-index l.fn.slots) ++ drop l.slot-index l.fn.slots
