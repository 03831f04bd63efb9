use Rattle.ioc_journal.proofs.Moves.{turns_takes_in}
use Rattle.ioc_journal.proofs.pass.take_in.Goals as goal

pub step_with-requires-clause-rule : goal.step_with-requires-clause-rule
step_with-requires-clause-rule g c = λ by. turns_takes_in by _ c.requires.keeps.0
