use Rattle.std.proofs.Common.{◌≡◌, ◌∙◌, ap, refl}
use Rattle.ioc_store.specs.declared.event_store.FollowUps.{FollowUps}
use Rattle.ioc_store.specs.FollowUps.{followed_by}
use Rattle.ioc_store.specs.World.{admitted}
use Rattle.ioc_store.proofs.store.Store.admit.Goals as goal

pub returns-clause-world : goal.returns-clause-world
unfolding admitted
returns-clause-world g c =
    let w = g.Self.Store.world c.args.self.now in
    let before = c.follow_ups_mut.result.now in
    let after : FollowUps = record { outbox = before.outbox; notifications = c.admit.new.self } in
    let done : followed_by after w ≡ admitted c.args.notification (followed_by before w) = rw (c.admit.ensures.live, c.admit.ensures.ended, c.admit.ensures.waiting) refl in
    g.met.Self.Store.with_follow_ups_world c.args.self.now after ∙ done ∙ ap (admitted c.args.notification) c.follow_ups_mut.ensures.value
