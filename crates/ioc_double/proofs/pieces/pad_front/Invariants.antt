use Rattle.std.proofs.Common.{◌≡◌, ◌≤◌, ◌-◌, length, replicate}
use Rattle.ioc_double.proofs.pieces.pad_front.Given as goal

abbrev pub invariant-loop : goal.invariant-loop
invariant-loop l = record {
  items : l.wide.items ≡ replicate (l.counter - length l.text.items) 32;
  few : l.counter - length l.text.items ≤ l.width - length l.text.items;
}
