use Rattle.ioc_journal.proofs.Moves.{forks_rest}
use Rattle.ioc_journal.proofs.pass.give_all.Goals as goal

pub cut-requires-clause-rule : goal.cut-requires-clause-rule
cut-requires-clause-rule c = forks_rest _ _ c.requires.asks

pub returns : goal.returns
returns c = record { kept = c.cut.ensures.kept; given = c.cut.ensures.given }
