-- A queue that threads share, and a lane of it, as contracts see them. This project's own.
use Rattle.std.specs.Prelude.{ℕ, List}
use Rattle.atomic_table.specs.Seated.{TableId}
use Rattle.ioc_shared_queues.specs.declared.order.SeenChange.{SeenChange}

-- Which queue it is, and how many items it holds at most.
pub record QueueView : Type 0 where
  pub id : TableId
  pub capacity : ℕ

-- Which queue the lane is of, and what was done to it up to the lane's last put or taking.
pub record QueueLaneView (T : Type 0) : Type 0 where
  pub of : TableId
  pub seen : List (SeenChange T)
