use Rattle.std.proofs.Common.{length}
use Rattle.ioc_main.specs.Written.{Writes}
use Rattle.ioc_main.proofs.writing.write_text.Given as goal

abbrev pub invariant-loop-rest : goal.invariant-loop-rest
invariant-loop-rest g l = Writes (g.W.Write.contents l.initial.out) l.text (g.W.Write.contents l.out) l.rest

abbrev pub decreases-loop-rest : goal.decreases-loop-rest
decreases-loop-rest g l = length l.rest
