use Rattle.std.proofs.Common.{◌≡◌, ℕ, ◌≤◌, take}
use Rattle.std.specs.Prelude.{slice_index_or}
use Rattle.ioc_journaled_set.specs.Passes.{Slot, view_of, IsPassOf, AreTakenOver}
use Rattle.ioc_journaled_set.proofs.together.merging.merge_all.Given as goal

abbrev pub invariant-loop-i : goal.invariant-loop-i
invariant-loop-i g l = record {
  keeper : IsPassOf g.B.CellName.table l.keeper;
  merged : AreTakenOver g.K.RecordKind.rules g.B.JournalName.base (view_of l.fn.keeper) (take l.i l.fn.passes) (view_of l.keeper);
  rest : (j : ℕ) (d : Slot) → l.i ≤ j → slice_index_or l.passes j d ≡ slice_index_or l.fn.passes j d;
}
