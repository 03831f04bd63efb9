use Rattle.std.proofs.Common.{◌≡◌, ◌^◌, ◌<◌, length}
use Rattle.ioc_double.specs.Spelled.{numeral, below}
use Rattle.ioc_double.proofs.Numerals.{numeral_after}
use Rattle.ioc_double.proofs.spelled.numeral.Given as goal

abbrev pub invariant-loop-rest : goal.invariant-loop-rest
invariant-loop-rest l = (below (2 ^ 64) (numeral_after l.n l.rest) ≡ below (2 ^ 64) (numeral l.digits)) × (l.n < 2 ^ 64)

abbrev pub decreases-loop-rest : goal.decreases-loop-rest
decreases-loop-rest l = length l.rest
