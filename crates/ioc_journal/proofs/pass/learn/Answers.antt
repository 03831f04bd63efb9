use Rattle.ioc_journal.proofs.Moves.{turns_learns}
use Rattle.ioc_journal.proofs.pass.learn.Goals as goal

pub step_with-requires-clause-rule : goal.step_with-requires-clause-rule
step_with-requires-clause-rule g c = λ by. turns_learns by _ c.requires.pass.0
