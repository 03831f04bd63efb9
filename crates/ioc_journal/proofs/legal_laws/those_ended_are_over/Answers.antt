use Rattle.ioc_journal.proofs.Endings.{ends-over, ends-last, nobody-has}
use Rattle.ioc_journal.proofs.legal_laws.those_ended_are_over.Goals as goal

pub returns-clause-over : goal.returns-clause-over
returns-clause-over g c = ends-over g.K.RecordKind.rules g.met.K.RecordKind.lawful c.events_have_laws.ensures

pub returns-clause-last : goal.returns-clause-last
returns-clause-last g c = ends-last g.K.RecordKind.rules g.met.K.RecordKind.lawful c.events_have_laws.ensures

pub returns-clause-nobody : goal.returns-clause-nobody
returns-clause-nobody g c = nobody-has g.K.RecordKind.rules g.met.K.RecordKind.lawful c.events_have_laws.ensures
