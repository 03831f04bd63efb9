use Rattle.ioc_journal.proofs.Lasting.{live-lasts}
use Rattle.ioc_journal.proofs.legal_laws.live_lasts.Goals as goal

pub returns : goal.returns
returns g c = live-lasts g.K.RecordKind.rules
