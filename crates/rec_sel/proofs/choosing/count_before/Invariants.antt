use Rattle.std.proofs.Common.{◌≡◌, ◌≤◌}
use Rattle.rec_sel.specs.Choosing.{count_below, is_before, value_of}
use Rattle.rec_sel.proofs.choosing.count_before.Given as goal

abbrev pub invariant-loop-i : goal.invariant-loop-i
invariant-loop-i l = (l.count ≡ count_below (λ m. is_before (value_of l.values m) m (value_of l.values l.number) l.number) l.i) × (l.count ≤ l.i)
