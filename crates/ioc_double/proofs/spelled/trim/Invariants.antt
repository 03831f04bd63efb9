use Rattle.std.proofs.Common.{◌≡◌, length, reverse}
use Rattle.ioc_double.specs.Spelled.{without_spaces, skip_front}
use Rattle.ioc_double.proofs.spelled.trim.Given as goal

abbrev pub invariant-loop-rest : goal.invariant-loop-rest
invariant-loop-rest l = reverse (skip_front (reverse l.rest)) ≡ without_spaces l.text

abbrev pub decreases-loop-rest : goal.decreases-loop-rest
decreases-loop-rest l = length l.rest
