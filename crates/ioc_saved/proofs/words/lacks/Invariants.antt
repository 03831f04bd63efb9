use Rattle.std.proofs.Common.{◌≡◌, length}
use Rattle.ioc_saved.specs.Words.{lacks}
use Rattle.ioc_saved.proofs.words.lacks.Given as goal

abbrev pub invariant-loop-rest : goal.invariant-loop-rest
invariant-loop-rest l = lacks l.byte l.rest ≡ lacks l.byte l.bytes

abbrev pub decreases-loop-rest : goal.decreases-loop-rest
decreases-loop-rest l = length l.rest
