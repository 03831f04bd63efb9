use Rattle.std.proofs.Common.{◌≡◌, ◌++◌, take, drop, map}
use Rattle.crossbeam_utils.specs.Seq.{cell_view}
use Rattle.ioc_watched.specs.Watched.{told_now}
use Rattle.ioc_watched.proofs.watch_list.tell_each.Given as goal

abbrev pub invariant-loop-place : goal.invariant-loop-place
invariant-loop-place l = record {
  told : l.records.items ≡ map (told_now l.number (cell_view l.fn.pass).seen) (take l.place l.fn.records.items) ++ drop l.place l.fn.records.items;
  pass : (l.pass.table_id ≡ l.fn.pass.table_id) × (cell_view l.pass ≡ cell_view l.fn.pass);
}
