use Rattle.std.proofs.Common.{◌≡◌, ◌∙◌, ap, refl}
use Rattle.ioc_store.specs.declared.event_store.FollowUps.{FollowUps}
use Rattle.ioc_store.specs.FollowUps.{followed_by}
use Rattle.ioc_store.specs.World.{taken_on}
use Rattle.ioc_store.proofs.store.Store.take_on.Goals as goal

pub returns-clause-world : goal.returns-clause-world
unfolding taken_on
returns-clause-world g c =
    let w = g.Self.Store.world c.args.self.now in
    let before = c.follow_ups_mut.result.now in
    let after : FollowUps = record { outbox = before.outbox; notifications = c.take_on.new.self } in
    let done : followed_by after w ≡ taken_on c.args.notification (followed_by before w) = rw (c.take_on.ensures.live, c.take_on.ensures.ended, c.take_on.ensures.waiting) refl in
    g.met.Self.Store.with_follow_ups_world c.args.self.now after ∙ done ∙ ap (taken_on c.args.notification) c.follow_ups_mut.ensures.value
