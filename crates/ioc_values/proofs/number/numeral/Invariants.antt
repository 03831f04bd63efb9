use Rattle.std.proofs.Common.{◌≡◌, ◌^◌, ◌<◌, length}
use Rattle.ioc_values.specs.Number.{numeral, below}
use Rattle.ioc_values.proofs.Numerals.{numeral_after}
use Rattle.ioc_values.proofs.number.numeral.Given as goal

abbrev pub invariant-loop-rest : goal.invariant-loop-rest
invariant-loop-rest l = (below (2 ^ 64) (numeral_after l.radix l.n l.rest) ≡ below (2 ^ 64) (numeral l.radix l.digits)) × (l.n < 2 ^ 64)

abbrev pub decreases-loop-rest : goal.decreases-loop-rest
decreases-loop-rest l = length l.rest
