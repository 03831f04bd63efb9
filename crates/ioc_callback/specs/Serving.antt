-- The callback queues and the once queue. Application Developer's Guide, "Scanning Specification":
-- callback tasks, scanOnce.
use Rattle.std.specs.Prelude.{◌+◌, ◌-◌, ◌^◌, min, List, [], ◌∷◌, ◌++◌}
use Rattle.ioc_menus.specs.declared.priority.Priority.{Priority}
use Rattle.ioc_menus.specs.declared.priority.Priority.TheVariants.{High, Medium, Low}
use Rattle.ioc_callback.specs.declared.queues.Queues.{Queues}

module _ {T : Type 0} where
  -- Empty queues.
  abbrev pub no_items : Queues T
  no_items = record { high = []; medium = []; low = []; once = []; dropped = 0 }

  -- The callback queue of a priority.
  abbrev pub callbacks : Queues T → Priority → List T
  callbacks q High = q.high
  callbacks q Medium = q.medium
  callbacks q Low = q.low

  -- The queues with an item appended to that callback queue.
  abbrev pub with_callback : Queues T → Priority → T → Queues T
  with_callback q High item = record q { high = q.high ++ item ∷ [] }
  with_callback q Medium item = record q { medium = q.medium ++ item ∷ [] }
  with_callback q Low item = record q { low = q.low ++ item ∷ [] }

  -- The queues with an item appended to the once queue.
  abbrev pub with_once : Queues T → T → Queues T
  with_once q item = record q { once = q.once ++ item ∷ [] }

  -- The queues with one more item counted as dropped. The count saturates.
  abbrev pub with_dropped : Queues T → Queues T
  with_dropped q = record q { dropped = min (2 ^ 64 - 1) (q.dropped + 1) }

  -- All queued items, in the order in which they are served if none is added.
  abbrev pub in_turn : Queues T → List T
  in_turn q = q.high ++ q.medium ++ q.low ++ q.once

  -- The queues after the next item is served.
  abbrev pub served : Queues T → Queues T
  served q = after q q.high q.medium q.low q.once
    where
      after : Queues T → List T → List T → List T → List T → Queues T
      after q (x ∷ rest) medium low once = record q { high = rest }
      after q [] (x ∷ rest) low once = record q { medium = rest }
      after q [] [] (x ∷ rest) once = record q { low = rest }
      after q [] [] [] (x ∷ rest) = record q { once = rest }
      after q [] [] [] [] = q
