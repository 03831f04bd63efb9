use Rattle.std.proofs.Common.{◌≡◌, ◌∙◌, ap, refl}
use Rattle.ioc_store.specs.declared.event_store.FollowUps.{FollowUps}
use Rattle.ioc_store.specs.FollowUps.{followed_by}
use Rattle.ioc_store.specs.World.{queued}
use Rattle.ioc_store.proofs.store.Store.queue.Goals as goal

pub returns-clause-world : goal.returns-clause-world
unfolding queued
returns-clause-world g c =
    let w = g.Self.Store.world c.args.self.now in
    let before = c.follow_ups_mut.result.now in
    let after : FollowUps = record { outbox = before.outbox; notifications = c.queue.new.self } in
    let done : followed_by after w ≡ queued c.args.item.now (followed_by before w) = rw (c.queue.ensures.live, c.queue.ensures.ended, c.queue.ensures.waiting) refl in
    g.met.Self.Store.with_follow_ups_world c.args.self.now after ∙ done ∙ ap (queued c.args.item.now) c.follow_ups_mut.ensures.value
