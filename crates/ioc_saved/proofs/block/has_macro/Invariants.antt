use Rattle.std.proofs.Common.{◌≡◌, length}
use Rattle.ioc_saved.specs.Blocks.{has_macro}
use Rattle.ioc_saved.proofs.block.has_macro.Given as goal

abbrev pub invariant-loop-rest : goal.invariant-loop-rest
invariant-loop-rest l = has_macro l.rest ≡ has_macro l.text

abbrev pub decreases-loop-rest : goal.decreases-loop-rest
decreases-loop-rest l = length l.rest
