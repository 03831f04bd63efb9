use Rattle.std.proofs.Common.{◌≡◌, length}
use Rattle.rec_calc.specs.Inputs.{sent}
use Rattle.rec_calc.proofs.Pairs.{paired_up_to}
use Rattle.rec_calc.proofs.inputs.send.Given as goal

-- The values were sent so far.
abbrev pub invariant-loop-i : goal.invariant-loop-i
invariant-loop-i l = (l.last ≡ paired_up_to (sent l.alarm_changed) l.i l.values l.initial.last) × (length l.last ≡ 12)
