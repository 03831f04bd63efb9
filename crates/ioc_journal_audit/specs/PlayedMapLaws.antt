-- The laws of the map as a store.
use Rattle.std.specs.Prelude.{◌≡◌, ℕ, refl}
use Rattle.ioc_store.specs.OneMapLaws.{with_record-world as with_record-world_of_map}
use Rattle.ioc_store.specs.declared.event_store.FollowUps.{FollowUps}
use Rattle.ioc_store.specs.FollowUps.{followed_by}
use Rattle.ioc_store.specs.World.{Has, put}
use Rattle.ioc_journal_audit.specs.declared.played_map.PlayedMap.{PlayedMap}
use Rattle.ioc_journal_audit.specs.PlayedMap.{world_of, given_of, with_record, with_follow_ups}

module _ {R : Type 0} where
  pub with_record-world : (s : PlayedMap R) (n : ℕ) (r : R) → Has (world_of s) n → world_of (with_record s n r) ≡ put (world_of s) n r
  with_record-world s n r has = with_record-world_of_map s.map n r has

  pub with_record-given : (s : PlayedMap R) (n : ℕ) (r : R) → Has (world_of s) n → given_of (with_record s n r) ≡ given_of s
  with_record-given s n r has = refl

  pub calls-given : (s : PlayedMap R) → (given_of s).calls ≡ (world_of s).calls
  calls-given s = refl

  pub moment-given : (s : PlayedMap R) → (given_of s).moment ≡ (world_of s).moment
  moment-given s = refl

  pub with_follow_ups-world : (s : PlayedMap R) (f : FollowUps) → world_of (with_follow_ups s f) ≡ followed_by f (world_of s)
  with_follow_ups-world s f = refl

  pub with_follow_ups-given : (s : PlayedMap R) (f : FollowUps) → given_of (with_follow_ups s f) ≡ given_of s
  with_follow_ups-given s f = refl
