use Rattle.std.proofs.Common.{◌≡◌, ◌+◌, length}
use Rattle.ioc_journal_base.proofs.bases.count_of_record.Given as goal

abbrev pub invariant-loop-rest : goal.invariant-loop-rest
invariant-loop-rest l = l.count + length l.rest ≡ length l.items

abbrev pub decreases-loop-rest : goal.decreases-loop-rest
decreases-loop-rest l = length l.rest
