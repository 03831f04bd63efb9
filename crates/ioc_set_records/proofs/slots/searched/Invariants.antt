use Rattle.std.proofs.Common.{◌≡◌, ℕ, ◌<◌, ◌≤◌, ◌-◌, length}
use Rattle.std.specs.Prelude.{slice_index}
use Rattle.ioc_set_records.specs.Slots.{numbers_of}
use Rattle.ioc_set_records.proofs.slots.searched.Given as goal

-- If the record is there, its place is from `low` up to `high`.
abbrev pub invariant-halve : goal.invariant-halve
invariant-halve g l = (l.high ≤ length l.slots) × (l.low ≤ l.high) × ((k : ℕ) → k < length l.slots → slice_index (numbers_of l.slots) k ≡ l.number → (l.low ≤ k) × (k < l.high))

abbrev pub decreases-halve : goal.decreases-halve
decreases-halve g l = l.high - l.low
