use Rattle.std.proofs.Common.{◌≡◌, length}
use Rattle.ioc_dblex.specs.Bytes.{behind_gap}
use Rattle.ioc_dblex.proofs.bytes.skip_gap.Given as goal

abbrev pub invariant-loop-rest : goal.invariant-loop-rest
invariant-loop-rest l = behind_gap l.rest ≡ behind_gap l.bytes

abbrev pub decreases-loop-rest : goal.decreases-loop-rest
decreases-loop-rest l = length l.rest
