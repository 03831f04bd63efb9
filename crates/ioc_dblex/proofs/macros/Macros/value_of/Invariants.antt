use Rattle.std.proofs.Common.{◌≡◌, length, map}
use Rattle.std.specs.Prelude.{option_map}
use Rattle.ioc_dblex.specs.Macros.{value_from, value_of}
use Rattle.ioc_dblex.specs.SeenMacros.{defined}
use Rattle.ioc_dblex.proofs.macros.Macros.value_of.Given as goal

abbrev pub invariant-loop-rest : goal.invariant-loop-rest
invariant-loop-rest l = value_from (option_map (λ v. v.now) l.found) (map defined l.rest) l.name ≡ value_of l.self l.name

abbrev pub decreases-loop-rest : goal.decreases-loop-rest
decreases-loop-rest l = length l.rest
