use Rattle.std.proofs.Common.{◌≡◌}
use Rattle.ioc_engine.specs.Numbers.{numbered_from}
use Rattle.ioc_engine.proofs.numbered.with_numbers.Given as goal

-- The devices so far have their numbers.
abbrev pub invariant-loop-name : goal.invariant-loop-name
invariant-loop-name g l = l.all.items ≡ numbered_from 0 l.yielded
