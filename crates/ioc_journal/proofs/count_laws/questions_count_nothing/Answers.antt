use Rattle.ioc_journal.proofs.Counting.{questions-nothing, links-nothing}
use Rattle.ioc_journal.proofs.count_laws.questions_count_nothing.Goals as goal

pub returns-clause-questions : goal.returns-clause-questions
returns-clause-questions g c = questions-nothing g.K.RecordKind.rules

pub returns-clause-links : goal.returns-clause-links
returns-clause-links g c = links-nothing g.K.RecordKind.rules
