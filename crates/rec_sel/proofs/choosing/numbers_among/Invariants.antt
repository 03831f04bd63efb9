use Rattle.std.proofs.Common.{◌≡◌, ◌≤◌}
use Rattle.std.specs.Prelude.{not, is_nan}
use Rattle.rec_sel.specs.Choosing.{count_below, value_of}
use Rattle.rec_sel.proofs.choosing.numbers_among.Given as goal

abbrev pub invariant-loop-i : goal.invariant-loop-i
invariant-loop-i l = (l.count ≡ count_below (λ n. not (is_nan (value_of l.values n))) l.i) × (l.count ≤ l.i)
