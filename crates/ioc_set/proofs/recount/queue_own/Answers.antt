use Rattle.std.specs.FinMap.{contains_key}
use Rattle.ioc_set.proofs.Recounts.{queued-room}
use Rattle.ioc_set.proofs.recount.queue_own.Goals as goal

pub queue-requires : goal.queue-requires
queue-requires g c =
    queued-room (λ x. contains_key c.args.members.now.records x.target) c.args.from.now c.loop-item.into.waiting.waiting c.args.into.now.waiting.waiting c.loop-item.item-index c.loop-item-test.true c.loop-item.invariant.0 c.requires.fits
