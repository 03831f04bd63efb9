use Rattle.std.proofs.Common.{◌≡◌, length}
use Rattle.ioc_values.specs.Number.{all_digits}
use Rattle.ioc_values.proofs.number.all_digits.Given as goal

abbrev pub invariant-loop-rest : goal.invariant-loop-rest
invariant-loop-rest l = all_digits l.radix l.rest ≡ all_digits l.radix l.digits

abbrev pub decreases-loop-rest : goal.decreases-loop-rest
decreases-loop-rest l = length l.rest
