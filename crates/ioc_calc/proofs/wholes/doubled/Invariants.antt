use Rattle.std.proofs.Common.{◌≡◌, ◌*◌, ◌%◌, ◌^◌, ◌<◌}
use Rattle.ioc_calc.proofs.wholes.doubled.Given as goal

abbrev pub invariant-loop : goal.invariant-loop
invariant-loop l = record { value : l.rest ≡ (l.number * 2 ^ l.counter) % l.divisor; below : l.rest < l.divisor }
