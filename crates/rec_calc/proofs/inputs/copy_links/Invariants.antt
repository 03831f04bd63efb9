use Rattle.std.proofs.Common.{◌≡◌, take, length}
use Rattle.rec_calc.proofs.inputs.copy_links.Given as goal

-- The links copied so far are equal.
abbrev pub invariant-loop-i : goal.invariant-loop-i
invariant-loop-i l = (take l.i l.copies ≡ take l.i l.links) × (length l.copies ≡ 12)
