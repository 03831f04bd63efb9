use Rattle.std.proofs.Common.{◌≡◌, length}
use Rattle.rec_calc.specs.Inputs.{constant_or}
use Rattle.rec_calc.proofs.Pairs.{paired_up_to}
use Rattle.rec_calc.proofs.inputs.put_constants.Given as goal

-- Constants were put into the values so far.
abbrev pub invariant-loop-i : goal.invariant-loop-i
invariant-loop-i l = (l.values ≡ paired_up_to constant_or l.i l.links l.initial.values) × (length l.values ≡ 12)
