use Rattle.std.proofs.Common.{◌≡◌, ◌∙◌, ap}
use Rattle.ioc_store.specs.declared.event_store.FollowUps.{FollowUps}
use Rattle.ioc_store.specs.FollowUps.{followed_by}
use Rattle.ioc_store.specs.World.{lost}
use Rattle.ioc_store.specs.Worlds.{lost_by}
use Rattle.ioc_store.proofs.store.Store.count_dropped.Goals as goal

pub returns-clause-world : goal.returns-clause-world
returns-clause-world g c =
    let w = g.Self.Store.world c.args.self.now in
    let before = c.follow_ups_mut.result.now in
    let after : FollowUps = record { outbox = c.count_dropped.new.self; notifications = before.notifications } in
    let done : followed_by after w ≡ lost (followed_by before w) = rw (c.count_dropped.ensures.items, c.count_dropped.ensures.dropped) (lost_by (followed_by before w)) in
    g.met.Self.Store.with_follow_ups_world c.args.self.now after ∙ done ∙ ap (lost) c.follow_ups_mut.ensures.value
