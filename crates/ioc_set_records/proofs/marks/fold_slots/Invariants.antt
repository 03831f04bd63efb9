use Rattle.std.proofs.Common.{drop}
use Rattle.ioc_set_records.proofs.Folding.{AreFolding}
use Rattle.ioc_set_records.proofs.marks.fold_slots.Given as goal

-- The slots whose places are listed so far are folded.
abbrev pub invariant-loop-place : goal.invariant-loop-place
invariant-loop-place g l = AreFolding l.fn.slots.items l.slots.items (drop l.place-index l.fn.changed.items)
