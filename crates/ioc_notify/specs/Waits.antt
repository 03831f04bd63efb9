-- The waiting lists of records: puts with notification that wait, first in, first out. Application
-- Developer's Guide, "Put with Notification" (dbPutNotify).
use Rattle.std.specs.Prelude.{ℕ, ◌==◌, not, List, [], ◌∷◌, ◌++◌}
use Rattle.std.specs.List.{filter}
use Rattle.ioc_notify.specs.declared.waiting_lists.Waiting.{Waiting}

-- All that wait, in the order in which they were added, and the number for which there is room.
pub record Waits : Type 0 where
  pub waiting : List Waiting
  pub room : ℕ

-- Empty waiting lists.
abbrev pub with_room : ℕ → Waits
with_room room = record { waiting = []; room = room }

-- The lists with one more, after all others.
abbrev pub added : Waits → Waiting → Waits
added w x = record w { waiting = w.waiting ++ x ∷ [] }

-- The waiting list of a record, in the order in which they were added.
abbrev pub at_record : ℕ → List Waiting → List Waiting
at_record target xs = filter (λ w. w.target == target) xs

-- The list without the put with notification with this number.
abbrev pub without : ℕ → List Waiting → List Waiting
without number xs = filter (λ w. not (w.number == number)) xs
