use Rattle.std.proofs.Common.{length}
use Rattle.ioc_journal_audit.specs.Resuming.{AllSettled}
use Rattle.ioc_journal_audit.proofs.resuming.are_settled.Given as goal

-- If the rest of the records are settled, all are.
abbrev pub invariant-loop-rest : goal.invariant-loop-rest
invariant-loop-rest l = AllSettled (length l.records) l.rest → AllSettled (length l.records) l.records

abbrev pub decreases-loop-rest : goal.decreases-loop-rest
decreases-loop-rest l = length l.rest
