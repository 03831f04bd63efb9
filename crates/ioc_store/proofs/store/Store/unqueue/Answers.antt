use Rattle.std.proofs.Common.{◌≡◌, ◌∙◌, ap, refl}
use Rattle.ioc_store.specs.declared.event_store.FollowUps.{FollowUps}
use Rattle.ioc_store.specs.FollowUps.{followed_by}
use Rattle.ioc_store.specs.World.{unqueued}
use Rattle.ioc_store.proofs.store.Store.unqueue.Goals as goal

pub returns-clause-world : goal.returns-clause-world
unfolding unqueued
returns-clause-world g c =
    let w = g.Self.Store.world c.args.self.now in
    let before = c.follow_ups_mut.result.now in
    let after : FollowUps = record { outbox = before.outbox; notifications = c.unqueue.new.self } in
    let done : followed_by after w ≡ unqueued c.args.notification (followed_by before w) = rw (c.unqueue.ensures.live, c.unqueue.ensures.ended, c.unqueue.ensures.waiting) refl in
    g.met.Self.Store.with_follow_ups_world c.args.self.now after ∙ done ∙ ap (unqueued c.args.notification) c.follow_ups_mut.ensures.value
