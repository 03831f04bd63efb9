use Rattle.ioc_journal.proofs.Moving.{link-moves}
use Rattle.ioc_journal.proofs.Linking.{link-joins}
use Rattle.ioc_journal.proofs.Replaying.{joins}
use Rattle.ioc_journal.proofs.legal_laws.joined_are_held.Goals as goal

pub returns-clause-event : goal.returns-clause-event
returns-clause-event g c = joins g.K.RecordKind.rules g.met.K.RecordKind.lawful c.events_have_laws.ensures

pub returns-clause-link : goal.returns-clause-link
returns-clause-link g c = link-joins g.K.RecordKind.rules g.met.K.RecordKind.lawful c.events_have_laws.ensures

pub returns-clause-moves : goal.returns-clause-moves
returns-clause-moves g c = link-moves g.K.RecordKind.rules g.met.K.RecordKind.lawful c.events_have_laws.ensures
