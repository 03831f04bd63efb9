use Rattle.ioc_journal.proofs.Counting.{parts-alike}
use Rattle.ioc_journal.proofs.count_laws.parts_count_alike.Goals as goal

pub returns : goal.returns
returns g c = parts-alike g.K.RecordKind.rules g.met.K.RecordKind.lawful c.events_have_laws.ensures
