use Rattle.std.proofs.Common.{◌≡◌, ◌∙◌, ap}
use Rattle.ioc_store.specs.declared.event_store.FollowUps.{FollowUps}
use Rattle.ioc_store.specs.FollowUps.{followed_by}
use Rattle.ioc_store.specs.World.{sent}
use Rattle.ioc_store.specs.Worlds.{sent_by}
use Rattle.ioc_store.proofs.store.Store.send.Goals as goal

pub returns-clause-world : goal.returns-clause-world
returns-clause-world g c =
    let w = g.Self.Store.world c.args.self.now in
    let before = c.follow_ups_mut.result.now in
    let after : FollowUps = record { outbox = c.send.new.self; notifications = before.notifications } in
    let done : followed_by after w ≡ sent c.args.item (followed_by before w) = rw (c.send.ensures.items, c.send.ensures.dropped) (sent_by c.args.item (followed_by before w)) in
    g.met.Self.Store.with_follow_ups_world c.args.self.now after ∙ done ∙ ap (sent c.args.item) c.follow_ups_mut.ensures.value
