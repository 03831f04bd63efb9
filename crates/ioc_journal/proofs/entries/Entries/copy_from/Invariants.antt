use Rattle.std.proofs.Common.{◌≡◌, ◌+◌, take, drop}
use Rattle.ioc_journal.proofs.entries.Entries.copy_from.Given as goal

-- As many entries are copied as turns were done.
abbrev pub invariant-loop : goal.invariant-loop
invariant-loop g l = record {
  copies : l.copies.items ≡ take l.counter (drop l.fn.from l.fn.self.filled);
  place : l.place ≡ l.fn.from + l.counter;
}
