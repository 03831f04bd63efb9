use Rattle.std.proofs.Common.{◌≡◌, length}
use Rattle.ioc_double.specs.Spelled.{skip_front}
use Rattle.ioc_double.proofs.spelled.skip_spaces.Given as goal

abbrev pub invariant-loop-rest : goal.invariant-loop-rest
invariant-loop-rest l = skip_front l.rest ≡ skip_front l.text

abbrev pub decreases-loop-rest : goal.decreases-loop-rest
decreases-loop-rest l = length l.rest
