use Rattle.ioc_journal_audit.proofs.Itemizing.{ItemsSoFar}
use Rattle.ioc_journal_audit.proofs.items.read_items.Given as goal

abbrev pub invariant-loop : goal.invariant-loop
invariant-loop g l = ItemsSoFar (g.R.Read.remaining l.initial.journal) (g.R.Read.remaining l.journal) l.items.items
