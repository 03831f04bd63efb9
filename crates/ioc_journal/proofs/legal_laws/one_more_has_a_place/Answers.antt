use Rattle.ioc_journal.proofs.Placing.{place-for-one-more}
use Rattle.ioc_journal.proofs.legal_laws.one_more_has_a_place.Goals as goal

pub returns : goal.returns
returns g c = place-for-one-more g.K.RecordKind.rules
