use Rattle.std.proofs.Common.{◌≡◌, ◌-◌}
use Rattle.rec_sel.specs.Choosing.{is_after, first_from}
use Rattle.rec_sel.proofs.choosing.median_number.Given as goal

-- The numbers before this one aren't that of the median.
abbrev pub invariant-loop-number : goal.invariant-loop-number
invariant-loop-number l = first_from (is_after l.values l.half) l.number (12 - l.number) ≡ first_from (is_after l.values l.half) 0 12
