use Rattle.ioc_journal.proofs.Begun.{one-may-begin}
use Rattle.ioc_journal.proofs.legal_laws.one_may_begin.Goals as goal

pub returns : goal.returns
returns g c = one-may-begin g.K.RecordKind.rules g.met.K.RecordKind.lawful c.events_have_laws.ensures
