use Rattle.std.proofs.Common.{◌≡◌, ◌≤◌, take, length}
use Rattle.ioc_journal.specs.Counting.{once_in}
use Rattle.ioc_journaled_set.proofs.counts.count_once.Given as goal

abbrev pub invariant-loop-item : goal.invariant-loop-item
invariant-loop-item l = record {
  is : l.count ≡ length (once_in (take l.item-index l.items));
  few : l.count ≤ l.item-index;
}
