use Rattle.ioc_journal.proofs.Giving.{begins-held, cancels-held}
use Rattle.ioc_journal.proofs.legal_laws.changes_of_all_are_held.Goals as goal

pub returns-clause-begins : goal.returns-clause-begins
returns-clause-begins g c = begins-held g.K.RecordKind.rules

pub returns-clause-cancel : goal.returns-clause-cancel
returns-clause-cancel g c = cancels-held g.K.RecordKind.rules g.met.K.RecordKind.lawful
