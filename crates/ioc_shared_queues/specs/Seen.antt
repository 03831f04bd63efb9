-- What a lane sees of one queue: all that was done to it up to the lane's last put or taking, in
-- order. This project's own.
use Rattle.std.specs.Prelude.{◌≡◌, ℕ, true, false, Bool, List, [], ◌∷◌, ◌++◌, length}
use Rattle.std.specs.List.{All, flat_map}
use Rattle.ioc_shared_queues.specs.declared.order.Change.{Change}
use Rattle.ioc_shared_queues.specs.declared.order.Change.TheVariants.{Put, Taken}
use Rattle.ioc_shared_queues.specs.declared.order.SeenChange.{SeenChange}

module _ {T : Type 0} where
  abbrev pub seen_change : Bool → Change T → SeenChange T
  seen_change own change = record { own = own; change = change }

  abbrev pub put_by : Change T → List T
  put_by (Put item) = item ∷ []
  put_by (Taken item) = []

  abbrev pub taken_by : Change T → List T
  taken_by (Put item) = []
  taken_by (Taken item) = item ∷ []

  -- The items that were put, in order.
  abbrev pub puts_in : List (SeenChange T) → List T
  puts_in changes = flat_map (λ m. put_by m.change) changes

  -- The items that were taken, in order.
  abbrev pub takings_in : List (SeenChange T) → List T
  takings_in changes = flat_map (λ m. taken_by m.change) changes

  -- What was put is what was taken followed by what is left, in order.
  abbrev pub Leaves : List (SeenChange T) → List T → Type 0
  Leaves changes left = puts_in changes ≡ takings_in changes ++ left

  abbrev pub IsOthers : SeenChange T → Type 0
  IsOthers m = m.own ≡ false

  -- More was done since, and no put or taking of the lane's own.
  abbrev pub Follows : List (SeenChange T) → List (SeenChange T) → Type 0
  Follows old new = (between : List (SeenChange T)) × All IsOthers between × (new ≡ old ++ between)

  -- More was done since, and then this by the lane itself.
  abbrev pub Adds : List (SeenChange T) → Change T → List (SeenChange T) → Type 0
  Adds old change new = (between : List (SeenChange T)) × All IsOthers between × (new ≡ (old ++ between) ++ seen_change true change ∷ [])

  -- The lane put the item, at the end of what was left.
  abbrev pub Puts : List (SeenChange T) → T → List (SeenChange T) → Type 0
  Puts v item w = Adds v (Put item) w × ((before : List T) × Leaves w (before ++ item ∷ []))

  -- The lane took the item, the first of what was left.
  abbrev pub Takes : List (SeenChange T) → T → List (SeenChange T) → Type 0
  Takes v item w = Adds v (Taken item) w × ((left : List T) × Leaves w left)

  -- At one moment after the lane's last put or taking, this was left.
  abbrev pub Left : List (SeenChange T) → List T → Type 0
  Left v left = (changes : List (SeenChange T)) × Follows v changes × Leaves changes left

  -- At one moment after the lane's last put or taking, the queue held so many.
  abbrev pub HeldThen : List (SeenChange T) → ℕ → Type 0
  HeldThen v count = (left : List T) × (length left ≡ count) × Left v left
