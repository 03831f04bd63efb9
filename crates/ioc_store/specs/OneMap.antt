-- All records in one map.
use Rattle.std.specs.Prelude.{ℕ, List, Option, unwrap_or, slice_get}
use Rattle.std.specs.Prelude.{None as Nothing_}
use Rattle.std.specs.List.{enumerate_from}
use Rattle.std.specs.Ordering.{nat_cmp}
use Rattle.std.specs.FinMap.{FinMap, from_entries}
use Rattle.std.specs.Vec.{with_item}
use Rattle.ioc_store.specs.declared.one_map.OneMap.{OneMap}
use Rattle.ioc_store.specs.declared.event_store.FollowUps.{FollowUps}
use Rattle.ioc_store.specs.Given.{Given, calls_of}
use Rattle.ioc_store.specs.Outbox.{items_of}
use Rattle.ioc_store.specs.World.{World}

-- The records by their indices.
abbrev pub numbered : {R : Type 0} → List R → FinMap nat_cmp R
numbered items = from_entries (enumerate_from 0 items)

-- The device at the index of a record.
abbrev pub device_at : {D : Type 0} → List (Option D) → ℕ → Option D
device_at items n = unwrap_or (slice_get items n) Nothing_

module _ {R D : Type 0} where
  abbrev pub world_of : OneMap R D → World R
  world_of s = record {
    records = numbered s.records.items;
    moment = s.event.moment;
    calls = calls_of s.event.calls;
    outbox = items_of s.event.follow_ups.outbox;
    dropped = s.event.follow_ups.outbox.dropped;
    live = s.event.follow_ups.notifications.live.live;
    ended = s.event.follow_ups.notifications.ended.items;
    waiting = s.event.follow_ups.notifications.waiting.waiting;
  }

  abbrev pub given_of : OneMap R D → Given D
  given_of s = record { calls = calls_of s.event.calls; moment = s.event.moment; devices = device_at s.devices.items }

  abbrev pub with_record : OneMap R D → ℕ → R → OneMap R D
  with_record s n r = record s { records = with_item s.records n r }

  abbrev pub with_follow_ups : OneMap R D → FollowUps → OneMap R D
  with_follow_ups s f = record s { event = record s.event { follow_ups = f } }
