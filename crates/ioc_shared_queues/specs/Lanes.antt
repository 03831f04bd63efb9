-- A lane of the callback queues as contracts see it, and what a call does to it. This project's
-- own.
use Rattle.std.specs.Prelude.{◌≡◌, ℕ, List}
use Rattle.atomic_table.specs.Seated.{TableId}
use Rattle.ioc_shared_queues.specs.declared.order.SeenChange.{SeenChange}
use Rattle.ioc_shared_queues.specs.declared.rank.Rank.{Rank}
use Rattle.ioc_shared_queues.specs.declared.rank.Rank.TheVariants.{High, Medium, Low, Once}
use Rattle.ioc_shared_queues.specs.Seen.{Puts, Takes, HeldThen}

-- Which queues the lane is of, and what it has seen of each.
pub record LaneView (T : Type 0) : Type 0 where
  pub of : List TableId
  pub high : List (SeenChange T)
  pub medium : List (SeenChange T)
  pub low : List (SeenChange T)
  pub once : List (SeenChange T)

-- The number of items that the queue holds at most.
abbrev pub limit_of : Rank → ℕ
limit_of High = 2000
limit_of Medium = 2000
limit_of Low = 2000
limit_of Once = 1000

module _ {T : Type 0} where
  abbrev pub seen_at : Rank → LaneView T → List (SeenChange T)
  seen_at High l = l.high
  seen_at Medium l = l.medium
  seen_at Low l = l.low
  seen_at Once l = l.once

  -- The step is one of what the lane has seen of this queue, and nothing else changed.
  abbrev pub ChangesAt : Rank → (List (SeenChange T) → List (SeenChange T) → Type 0) → LaneView T → LaneView T → Type 0
  ChangesAt High step l m = step l.high m.high × (m.medium ≡ l.medium) × (m.low ≡ l.low) × (m.once ≡ l.once) × (m.of ≡ l.of)
  ChangesAt Medium step l m = step l.medium m.medium × (m.high ≡ l.high) × (m.low ≡ l.low) × (m.once ≡ l.once) × (m.of ≡ l.of)
  ChangesAt Low step l m = step l.low m.low × (m.high ≡ l.high) × (m.medium ≡ l.medium) × (m.once ≡ l.once) × (m.of ≡ l.of)
  ChangesAt Once step l m = step l.once m.once × (m.high ≡ l.high) × (m.medium ≡ l.medium) × (m.low ≡ l.low) × (m.of ≡ l.of)

  -- The lane put the item on the queue.
  abbrev pub PutsAt : LaneView T → Rank → T → LaneView T → Type 0
  PutsAt l rank item m = ChangesAt rank (λ v w. Puts v item w) l m

  -- The lane took the item from the queue.
  abbrev pub TakesAt : LaneView T → Rank → T → LaneView T → Type 0
  TakesAt l rank item m = ChangesAt rank (λ v w. Takes v item w) l m

  -- At one moment after the lane's last put or taking, the queue held so many.
  abbrev pub FindsHeld : ℕ → Rank → LaneView T → LaneView T → Type 0
  FindsHeld count rank l m = (m ≡ l) × HeldThen (seen_at rank l) count

  abbrev pub FindsEmptyAt : LaneView T → Rank → LaneView T → Type 0
  FindsEmptyAt l rank m = FindsHeld 0 rank l m

  abbrev pub FindsFullAt : LaneView T → Rank → LaneView T → Type 0
  FindsFullAt l rank m = FindsHeld (limit_of rank) rank l m
