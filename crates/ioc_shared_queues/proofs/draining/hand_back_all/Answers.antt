use Rattle.std.specs.Prelude.{◌∷◌}
use Rattle.ioc_shared_queues.proofs.draining.hand_back_all.Goals as goal

pub loop-preserved : goal.loop-preserved
loop-preserved g c =
    let r = c.loop.invariant.items in
    let taken = c.in-Some-take_first.ensures.taken in
    record { lane = c.take_first.ensures.lane; items = (c.in-Some-take_first.item ∷ r.0, (_, _, r.1, taken, c.hand_back.ensures)) }
