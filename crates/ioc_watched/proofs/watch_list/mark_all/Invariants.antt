use Rattle.std.proofs.Common.{◌≡◌, ◌++◌, take, drop, map}
use Rattle.ioc_watched.specs.Watched.{marked}
use Rattle.ioc_watched.proofs.watch_list.mark_all.Given as goal

abbrev pub invariant-loop-place : goal.invariant-loop-place
invariant-loop-place l = l.records.items ≡ map marked (take l.place l.fn.records.items) ++ drop l.place l.fn.records.items
