use Rattle.std.proofs.Common.{◌≡◌, ◌≤◌, ℕ, true, take, length}
use Rattle.std.specs.Prelude.{All, Contains, IsTrue}
use Rattle.std.specs.FinMap.{contains_key}
use Rattle.std.specs.Vec.{vec_capacity}
use Rattle.crossbeam_utils.specs.Seq.{cell_view}
use Rattle.ioc_watched.specs.Watched.{WatchedRecord, IsWatched}
use Rattle.ioc_watched.proofs.watch_list.add_each.Given as goal

abbrev pub invariant-loop-number : goal.invariant-loop-number
invariant-loop-number g l = record {
  count : length l.records.items ≤ l.number-index;
  room : vec_capacity l.records ≡ vec_capacity l.fn.records;
  all : (n : ℕ) → Contains (take l.number-index l.numbers) n → IsTrue (contains_key l.set.records n) → IsWatched n l.records.items;
  marked : All (λ (w : WatchedRecord). IsTrue (contains_key l.set.records w.number) × (w.is_marked ≡ true)) l.records.items;
  pass : (l.pass.table_id ≡ l.fn.pass.table_id) × (cell_view l.pass ≡ cell_view l.fn.pass);
}
