use Rattle.ioc_journal.proofs.Asking.{asks}
use Rattle.ioc_journal.proofs.Doing.{one-more}
use Rattle.ioc_journal.proofs.legal_laws.events_are_held.Goals as goal

pub returns-clause-event : goal.returns-clause-event
returns-clause-event g c = one-more g.K.RecordKind.rules g.met.K.RecordKind.lawful c.events_have_laws.ensures

pub returns-clause-asks : goal.returns-clause-asks
returns-clause-asks g c = asks g.K.RecordKind.rules g.met.K.RecordKind.lawful c.events_have_laws.ensures
