use Rattle.ioc_journal.proofs.Moves.{forks_again}
use Rattle.ioc_journal.proofs.pass.copy.Goals as goal

pub cut-requires-clause-rule : goal.cut-requires-clause-rule
cut-requires-clause-rule c = forks_again _ _

pub returns : goal.returns
returns c = record { kept = c.cut.ensures.kept; given = c.cut.ensures.given }
