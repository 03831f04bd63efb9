-- The 256 places for puts with notification of all lock sets. This project's own.
use Rattle.std.specs.Prelude.{◌≢◌, ◌+◌, ◌≤◌, ◌==◌, not, ℕ, List, length}
use Rattle.std.specs.List.{AllPairs, filter}

-- The numbers that have a place: those that were taken for puts with notification that haven't
-- begun yet, and those of puts with notification that have begun and may be live.
pub record Places : Type 0 where
  pub taken : List ℕ
  pub begun : List ℕ

abbrev pub places_of : (taken begun : List ℕ) → Places
places_of taken begun = record { taken = taken; begun = begun }

-- The list without this number.
abbrev pub without : ℕ → List ℕ → List ℕ
without number xs = filter (λ n. not (n == number)) xs

-- At most 256 numbers have a place, and none has begun twice.
pub record AreFew (p : Places) : Type 0 where
  pub few : length p.taken + length p.begun ≤ 256
  pub once : AllPairs (λ earlier later. earlier ≢ later) p.begun

-- The invariant of the places: there is room for 256 numbers of each kind.
pub record HavePlaces (p : Places) (for_taken for_begun : ℕ) : Type 0 where
  pub numbers : AreFew p
  pub room : (256 ≤ for_taken) × (256 ≤ for_begun)
