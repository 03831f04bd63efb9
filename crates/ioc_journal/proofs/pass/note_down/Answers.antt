use Rattle.ioc_journal.proofs.Moves.{turns_appends}
use Rattle.ioc_journal.proofs.pass.note_down.Goals as goal

pub step-requires-clause-rule : goal.step-requires-clause-rule
step-requires-clause-rule g c = turns_appends _ _ _ c.requires.keeps.0 c.requires.keeps.1 c.requires.owns

pub returns : goal.returns
returns g c = (c.step.ensures.table, c.step.ensures.rule.1)
