use Rattle.std.proofs.Common.{◌≡◌, ◌<◌, ◌≤◌, ℕ, length}
use Rattle.std.specs.Prelude.{slice_index_or}
use Rattle.ioc_watched.specs.Marking.{IsMarkedOn}
use Rattle.ioc_watched.specs.Watched.{WatchedRecord}
use Rattle.ioc_watched.proofs.watch_list.mark_each.Given as goal

abbrev pub invariant-loop-place : goal.invariant-loop-place
invariant-loop-place g l = record {
  count : length l.records.items ≡ length l.fn.records.items;
  done : (i : ℕ) (d e : WatchedRecord) → i < l.place → IsMarkedOn g.K.RecordKind.rules l.set.base.records l.set.records (slice_index_or l.fn.records.items i d) (slice_index_or l.records.items i e);
  rest : (i : ℕ) (d : WatchedRecord) → l.place ≤ i → slice_index_or l.records.items i d ≡ slice_index_or l.fn.records.items i d;
}
