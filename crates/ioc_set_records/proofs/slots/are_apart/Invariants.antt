use Rattle.std.proofs.Common.{◌≡◌, ℕ, None, ◌<◌}
use Rattle.std.specs.Prelude.{slice_index}
use Rattle.std.specs.FinMap.{get}
use Rattle.ioc_set_records.specs.Slots.{numbers_of, records_of}
use Rattle.ioc_set_records.proofs.slots.are_apart.Given as goal

-- None of the slots visited so far is in both.
abbrev pub invariant-loop-slot : goal.invariant-loop-slot
invariant-loop-slot g l = (i : ℕ) → i < l.slot-index → get (records_of l.others) (slice_index (numbers_of l.slots) i) ≡ None
