use Rattle.std.proofs.Common.{◌≡◌, ◌∙◌, ap, refl}
use Rattle.ioc_store.specs.declared.event_store.FollowUps.{FollowUps}
use Rattle.ioc_store.specs.FollowUps.{followed_by}
use Rattle.ioc_store.specs.World.{let_go}
use Rattle.ioc_store.proofs.store.Store.let_go.Goals as goal

pub returns-clause-world : goal.returns-clause-world
unfolding let_go
returns-clause-world g c =
    let w = g.Self.Store.world c.args.self.now in
    let before = c.follow_ups_mut.result.now in
    let after : FollowUps = record { outbox = before.outbox; notifications = c.let_go.new.self } in
    let done : followed_by after w ≡ let_go c.args.notification (followed_by before w) = rw (c.let_go.ensures.live, c.let_go.ensures.ended, c.let_go.ensures.waiting) refl in
    g.met.Self.Store.with_follow_ups_world c.args.self.now after ∙ done ∙ ap (let_go c.args.notification) c.follow_ups_mut.ensures.value
