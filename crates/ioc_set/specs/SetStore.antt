-- The records of a lock set in the course of an event.
use Rattle.std.specs.Prelude.{ℕ}
use Rattle.std.specs.FinMap.{insert}
use Rattle.ioc_store.specs.Given.{Given, calls_of}
use Rattle.ioc_store.specs.Outbox.{items_of}
use Rattle.ioc_store.specs.World.{World}
use Rattle.ioc_store.specs.declared.event_store.FollowUps.{FollowUps}
use Rattle.ioc_set.specs.declared.attached.Attached.{Attached}
use Rattle.ioc_set.specs.declared.set_store.SetStore.{SetStore}
use Rattle.ioc_set.specs.Attached.{attached_in}

module _ {R D : Type 0} where
  abbrev pub world_of : SetStore R D → World R
  world_of s = record {
    records = s.members.records;
    moment = s.event.moment;
    calls = calls_of s.event.calls;
    outbox = items_of s.event.follow_ups.outbox;
    dropped = s.event.follow_ups.outbox.dropped;
    live = s.event.follow_ups.notifications.live.live;
    ended = s.event.follow_ups.notifications.ended.items;
    waiting = s.event.follow_ups.notifications.waiting.waiting;
  }

  abbrev pub given_of : SetStore R D → Given (Attached R D)
  given_of s = record { calls = calls_of s.event.calls; moment = s.event.moment; devices = attached_in s.members }

  abbrev pub with_record : SetStore R D → ℕ → R → SetStore R D
  with_record s n r = record s { members = record s.members { records = insert s.members.records n r } }

  abbrev pub with_follow_ups : SetStore R D → FollowUps → SetStore R D
  with_follow_ups s f = record s { event = record s.event { follow_ups = f } }
