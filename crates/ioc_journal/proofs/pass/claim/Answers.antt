use Rattle.ioc_journal.proofs.Moves.{forks_claims}
use Rattle.ioc_journal.proofs.pass.claim.Goals as goal

pub cut-requires-clause-rule : goal.cut-requires-clause-rule
cut-requires-clause-rule g c = forks_claims _ _ _ c.requires.keeps c.requires.fresh

pub returns : goal.returns
returns g c = record { kept = c.cut.ensures.kept; given = c.cut.ensures.given }
