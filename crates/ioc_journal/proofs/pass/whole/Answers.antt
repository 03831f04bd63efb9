use Rattle.ioc_journal.proofs.Moves.{forks_whole}
use Rattle.ioc_journal.proofs.pass.whole.Goals as goal

pub cut-requires-clause-rule : goal.cut-requires-clause-rule
cut-requires-clause-rule c = forks_whole _ _ c.requires.keeps

pub returns : goal.returns
returns c = record { kept = c.cut.ensures.kept; given = c.cut.ensures.given }
