use Rattle.std.proofs.Common.{◌≡◌, ℕ, ◌≤◌, length, take}
use Rattle.std.specs.Prelude.{slice_index_or}
use Rattle.std.specs.Vec.{vec_len, vec_capacity}
use Rattle.crossbeam_utils.specs.Seq.{cell_view}
use Rattle.ioc_journal.specs.declared.cell.View.{View}
use Rattle.ioc_journaled_set.specs.Holding.{HeldView}
use Rattle.ioc_journaled_set.specs.GivingUp.{EachIsLent, EachIsCounted, sets_of}
use Rattle.ioc_journaled_set.specs.SameDevice.{IsDeviceOf}
use Rattle.ioc_journaled_set.proofs.giving_up.separate_all.Given as goal

abbrev pub invariant-loop-i : goal.invariant-loop-i
invariant-loop-i g l = record {
  table : l.keeper.table_id ≡ l.fn.keeper.table_id;
  view : cell_view {V = View} l.keeper ≡ cell_view {V = View} l.fn.keeper;
  room : (length l.fn.held ≤ vec_capacity l.sets) × (length l.fn.held ≤ vec_capacity l.passes) × (length l.fn.held ≤ vec_capacity l.shares);
  sets : l.sets.items ≡ sets_of (take l.i l.fn.held);
  count : (vec_len l.sets ≡ l.i) × (vec_len l.passes ≡ l.i) × (vec_len l.shares ≡ l.i);
  lengths : (length l.sets.items ≡ l.i) × (length l.passes.items ≡ l.i) × (length l.shares.items ≡ l.i);
  counted : EachIsCounted l.sets.items l.shares.items;
  lent : EachIsLent g.K.RecordKind.rules g.B.JournalName.base (IsDeviceOf g.D.Device.gives g.B.SetsName.devices) g.B.CellName.table l.sets.items l.passes.items;
  rest : (j : ℕ) (d : HeldView g.row.K.Denot g.row.D.Denot) → l.i ≤ j → slice_index_or l.held j d ≡ slice_index_or l.fn.held j d;
}
