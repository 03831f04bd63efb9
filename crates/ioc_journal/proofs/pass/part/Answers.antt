use Rattle.ioc_journal.proofs.Moves.{forks_parts}
use Rattle.ioc_journal.proofs.pass.part.Goals as goal

pub cut-requires-clause-rule : goal.cut-requires-clause-rule
cut-requires-clause-rule g c = forks_parts _ _ _ _ c.requires.asks c.requires.within c.requires.apart

pub returns : goal.returns
returns g c = record { kept = c.cut.ensures.kept; given = c.cut.ensures.given }
