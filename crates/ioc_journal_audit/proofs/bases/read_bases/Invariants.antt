use Rattle.ioc_journal_audit.proofs.Basing.{BasesSoFar}
use Rattle.ioc_journal_audit.proofs.bases.read_bases.Given as goal

abbrev pub invariant-loop : goal.invariant-loop
invariant-loop g l = BasesSoFar (g.R.Read.remaining l.initial.journal) (g.R.Read.remaining l.journal) l.values.items
