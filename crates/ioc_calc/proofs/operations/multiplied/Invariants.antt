use Rattle.std.proofs.Common.{◌≡◌, ◌-◌}
use Rattle.ioc_calc.specs.Operations.{multiplied}
use Rattle.ioc_calc.proofs.operations.multiplied.Given as goal

abbrev pub invariant-loop : goal.invariant-loop
invariant-loop l = multiplied (7 - l.counter) l.product l.square l.rest ≡ multiplied 7 l.start l.base l.exponent
