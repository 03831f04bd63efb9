-- The state of an event that a store keeps, and the world with it.
use Rattle.std.specs.Prelude.{◌≡◌}
use Rattle.ioc_store.specs.declared.event_store.EventStore.{EventStore}
use Rattle.ioc_store.specs.declared.event_store.FollowUps.{FollowUps}
use Rattle.ioc_store.specs.Given.{calls_of}
use Rattle.ioc_store.specs.Outbox.{items_of}
use Rattle.ioc_store.specs.World.{World}

module _ {R : Type 0} where
  -- The world with this following its event.
  abbrev pub followed_by : FollowUps → World R → World R
  followed_by f w = record w {
    outbox = items_of f.outbox;
    dropped = f.outbox.dropped;
    live = f.notifications.live.live;
    ended = f.notifications.ended.items;
    waiting = f.notifications.waiting.waiting;
  }

  -- Holds if this is the state of the event of the world.
  pub record IsEventOf (e : EventStore) (w : World R) : Type 0 where
    pub moment : w.moment ≡ e.moment
    pub calls : w.calls ≡ calls_of e.calls
    pub follow_ups : followed_by e.follow_ups w ≡ w
