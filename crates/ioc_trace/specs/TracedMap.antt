-- All records in one map, whose events are traced: what is traced is no part of the world.
use Rattle.std.specs.Prelude.{ℕ}
use Rattle.ioc_store.specs.Given.{Given}
use Rattle.ioc_store.specs.OneMap.{world_of as world_of_map, given_of as given_of_map, with_record as with_record_of_map, with_follow_ups as with_follow_ups_of_map}
use Rattle.ioc_store.specs.World.{World}
use Rattle.ioc_store.specs.declared.event_store.FollowUps.{FollowUps}
use Rattle.ioc_trace.specs.declared.traced_map.TracedMap.{TracedMap}

module _ {R D : Type 0} where
  abbrev pub world_of : TracedMap R D → World R
  world_of s = world_of_map s.map

  abbrev pub given_of : TracedMap R D → Given D
  given_of s = given_of_map s.map

  abbrev pub with_record : TracedMap R D → ℕ → R → TracedMap R D
  with_record s n r = record s { map = with_record_of_map s.map n r }

  abbrev pub with_follow_ups : TracedMap R D → FollowUps → TracedMap R D
  with_follow_ups s f = record s { map = with_follow_ups_of_map s.map f }
