use Rattle.std.proofs.Common.{◌≡◌, ◌≤◌, ◌-◌, ℕ, List}
use Rattle.ioc_journal_audit.proofs.Reading.{ReadSoFar}
use Rattle.ioc_journal_audit.proofs.journal.audit.Given as goal

abbrev pub invariant-loop-count : goal.invariant-loop-count
invariant-loop-count g l = (l.count ≤ l.most) × ReadSoFar l.initial.auditor (g.R.Read.remaining l.initial.journal) l.auditor (g.R.Read.remaining l.journal) l.count

abbrev pub decreases-loop-count : goal.decreases-loop-count
decreases-loop-count g l = l.most - l.count
