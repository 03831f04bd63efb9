use Rattle.std.proofs.Common.{◌≡◌, take}
use Rattle.ioc_journaled_set.specs.Holding.{numbers_of}
use Rattle.ioc_engine_core.proofs.parts.numbers_in.Given as goal

abbrev pub invariant-loop-place : goal.invariant-loop-place
invariant-loop-place g l = l.numbers.items ≡ take l.place (numbers_of l.held)
