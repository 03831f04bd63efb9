use Rattle.ioc_journal.proofs.Lasting.{lasts}
use Rattle.ioc_journal.proofs.legal_laws.holding_lasts.Goals as goal

pub returns : goal.returns
returns g c = lasts g.K.RecordKind.rules
