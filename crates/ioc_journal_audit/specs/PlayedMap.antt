-- All records in one map, whose devices give the answers of a list.
use Rattle.std.specs.Prelude.{ℕ, Some}
use Rattle.ioc_store.specs.Given.{Given, calls_of}
use Rattle.ioc_store.specs.OneMap.{world_of as world_of_map, with_record as with_record_of_map, with_follow_ups as with_follow_ups_of_map}
use Rattle.ioc_store.specs.World.{World}
use Rattle.ioc_store.specs.declared.event_store.FollowUps.{FollowUps}
use Rattle.ioc_device.specs.declared.Answer.{Answer}
use Rattle.std.specs.Prelude.{List}
use Rattle.ioc_journal_audit.specs.declared.played_map.PlayedMap.{PlayedMap}

module _ {R : Type 0} where
  abbrev pub world_of : PlayedMap R → World R
  world_of s = world_of_map s.map

  -- Each record has a device, which keeps the list.
  abbrev pub given_of : PlayedMap R → Given (List Answer)
  given_of s = record { calls = calls_of s.map.event.calls; moment = s.map.event.moment; devices = λ n. Some s.playing }

  abbrev pub with_record : PlayedMap R → ℕ → R → PlayedMap R
  with_record s n r = record s { map = with_record_of_map s.map n r }

  abbrev pub with_follow_ups : PlayedMap R → FollowUps → PlayedMap R
  with_follow_ups s f = record s { map = with_follow_ups_of_map s.map f }
