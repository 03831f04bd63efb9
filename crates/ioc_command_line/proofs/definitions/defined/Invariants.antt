use Rattle.std.proofs.Common.{◌≡◌, length, map}
use Rattle.ioc_command_line.specs.Definitions.{all_defined}
use Rattle.ioc_command_line.proofs.definitions.defined.Given as goal

abbrev pub invariant-loop-rest : goal.invariant-loop-rest
invariant-loop-rest l = all_defined l.macros (map (λ w. w.now) l.rest) ≡ all_defined l.initial.macros (map (λ w. w.now) l.words)

abbrev pub decreases-loop-rest : goal.decreases-loop-rest
decreases-loop-rest l = length l.rest
