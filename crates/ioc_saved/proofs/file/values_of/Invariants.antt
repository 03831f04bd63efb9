use Rattle.std.proofs.Common.{◌≡◌, ◌≤◌, ◌+◌, length}
use Rattle.ioc_saved.specs.Words.{lines_of}
use Rattle.ioc_saved.specs.Files.{values_of}
use Rattle.ioc_saved.proofs.FilesAgain.{with_front}
use Rattle.ioc_saved.proofs.file.values_of.Given as goal

abbrev pub invariant-loop-rest : goal.invariant-loop-rest
invariant-loop-rest l = (with_front l.values.items (values_of (l.number + 1) (lines_of l.rest)) ≡ values_of 1 (lines_of l.text)) × (l.number + length l.rest ≤ length l.text)

abbrev pub decreases-loop-rest : goal.decreases-loop-rest
decreases-loop-rest l = length l.rest
