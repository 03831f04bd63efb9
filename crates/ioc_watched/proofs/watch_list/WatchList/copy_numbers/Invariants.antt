use Rattle.std.proofs.Common.{◌≡◌, ◌++◌, take, map}
use Rattle.std.specs.Vec.{vec_capacity}
use Rattle.ioc_watched.specs.Watched.{WatchedRecord}
use Rattle.ioc_watched.proofs.watch_list.WatchList.copy_numbers.Given as goal

abbrev pub invariant-loop-watched : goal.invariant-loop-watched
invariant-loop-watched l = record {
  numbers : l.numbers.items ≡ l.fn.numbers.items ++ map (λ (w : WatchedRecord). w.number) (take l.watched-index l.watched-items);
  room : vec_capacity l.numbers ≡ vec_capacity l.fn.numbers;
}
