use Rattle.std.proofs.Common.{◌≡◌, length}
use Rattle.ioc_saved.specs.Words.{lines_of, last_of}
use Rattle.ioc_saved.proofs.words.last_line.Given as goal

abbrev pub invariant-loop-rest : goal.invariant-loop-rest
invariant-loop-rest l = last_of (lines_of l.rest) ≡ last_of (lines_of l.text)

abbrev pub decreases-loop-rest : goal.decreases-loop-rest
decreases-loop-rest l = length l.rest
