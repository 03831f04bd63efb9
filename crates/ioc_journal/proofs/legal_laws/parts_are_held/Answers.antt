use Rattle.ioc_journal.proofs.Linking.{link-parts}
use Rattle.ioc_journal.proofs.Replaying.{parts}
use Rattle.ioc_journal.proofs.legal_laws.parts_are_held.Goals as goal

pub returns-clause-event : goal.returns-clause-event
returns-clause-event g c = parts g.K.RecordKind.rules g.met.K.RecordKind.lawful c.events_have_laws.ensures

pub returns-clause-link : goal.returns-clause-link
returns-clause-link g c = link-parts g.K.RecordKind.rules g.met.K.RecordKind.lawful c.events_have_laws.ensures
