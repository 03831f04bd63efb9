-- The waiting lists are first in, first out.
use Rattle.std.specs.Prelude.{◌≡◌, ℕ, ◌==◌, if◌then◌else◌, [], ◌∷◌, ◌++◌}
use Rattle.ioc_notify.specs.declared.waiting_lists.Waiting.{Waiting}
use Rattle.ioc_notify.specs.Waits.{Waits, added, at_record, without}

-- Holds if one that is added goes to the end of its record's list, and the other lists stay the
-- same.
abbrev pub GoesToTheEnd : Waits → Waiting → ℕ → Type 0
GoesToTheEnd w x target = at_record target (added w x).waiting ≡ at_record target w.waiting ++ (if x.target == target then x ∷ [] else [])

-- Holds if removing one from all lists removes it from each list, and nothing else.
abbrev pub TakesNoOthers : Waits → ℕ → ℕ → Type 0
TakesNoOthers w number target = at_record target (without number w.waiting) ≡ without number (at_record target w.waiting)
