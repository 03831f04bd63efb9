-- The rule of a queue: there is one list of all that was done to it, each with the lane that did
-- it. This project's own.
use Rattle.std.specs.Prelude.{◌≡◌, ℕ, ◌<◌, List, ◌++◌, map, length, eqb}
use Rattle.std.specs.List.{All, flat_map}
use mathlib.Core.Option.{some}
use lib.ListN.{get_elem?}
use Rattle.ioc_shared_queues.specs.declared.order.Change.{Change}
use Rattle.ioc_shared_queues.specs.declared.order.SeenChange.{SeenChange}
use Rattle.ioc_shared_queues.specs.Seen.{seen_change, put_by, taken_by, Follows}

module _ {T : Type 0} where
  -- The list as a lane sees it.
  abbrev pub seen_by : ℕ → List (ℕ × Change T) → List (SeenChange T)
  seen_by lane log = map (λ e. seen_change (eqb lane e.0) e.1) log

  abbrev pub puts_of : List (ℕ × Change T) → List T
  puts_of log = flat_map (λ e. put_by e.1) log

  abbrev pub takings_of : List (ℕ × Change T) → List T
  takings_of log = flat_map (λ e. taken_by e.1) log

  abbrev pub IsBelow : ℕ → ℕ × Change T → Type 0
  IsBelow lanes e = e.0 < lanes

  -- Each change is one of the lanes'.
  abbrev pub IsByLanes : ℕ → List (ℕ × Change T) → Type 0
  IsByLanes lanes log = All (IsBelow lanes) log

  -- The lane has seen a beginning of the list, since which it neither put nor took.
  abbrev pub Fits : List (ℕ × Change T) → ℕ → List (SeenChange T) → Type 0
  Fits log lane v = Follows v (seen_by lane log)

  -- What was put is what was taken followed by what the queue holds.
  abbrev pub InOrder : List T → List (List (SeenChange T)) → Type 0
  InOrder items views = (log : List (ℕ × Change T)) × (puts_of log ≡ takings_of log ++ items) × IsByLanes (length views) log
      × ((lane : ℕ) (v : List (SeenChange T)) → get_elem? views lane ≡ some v → Fits log lane v)
