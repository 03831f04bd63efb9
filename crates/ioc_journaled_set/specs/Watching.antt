-- Watched records of journaled sets over calls that concern several sets. This project's own.
use Rattle.std.specs.Prelude.{◌≡◌, ℕ, List, map, Contains}
use Rattle.ioc_watched.specs.Watched.{WatchedRecord, IsWatched}
use Rattle.ioc_journaled_set.specs.Holding.{HeldView, numbers_of}

-- The numbers of watched records.
abbrev pub watched_numbers : List WatchedRecord → List ℕ
watched_numbers ws = map (λ w. w.number) ws

module _ {R D : Type 0} where
  -- Each record of the set that is among these is watched.
  abbrev pub WatchesThose : List ℕ → HeldView R D → Type 0
  WatchesThose ns v = (n : ℕ) → Contains (numbers_of v) n → Contains ns n → IsWatched n v.watched

  -- Each record of the set that was watched among these is watched.
  abbrev pub WatchesOn : List WatchedRecord → HeldView R D → Type 0
  WatchesOn ws v = (n : ℕ) → Contains (numbers_of v) n → IsWatched n ws → IsWatched n v.watched

  -- The same set after the same calls, whichever of its records are watched.
  abbrev pub IsSameSet : HeldView R D → HeldView R D → Type 0
  IsSameSet one other = (one.set ≡ other.set) × (one.seen ≡ other.seen)
