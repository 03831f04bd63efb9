use Rattle.std.proofs.Common.{rules}
use Rattle.rec_state.specs.Slotted.{set_is}
use Rattle.rec_state.proofs.slots.set_slot.Goals as goal

pub returns : goal.returns
returns g c = rw c.index-index.ensures.number (set_is c.args.item c.args.items.now c.args.slot c.args.item (search rules))
