use Rattle.ioc_engine.proofs.TypesKept.{calls-keep, lists-keep, held-keep}
use Rattle.ioc_engine.proofs.type_laws.types_stay.Goals as goal

pub returns-clause-call : goal.returns-clause-call
returns-clause-call g c = calls-keep g.K.RecordKind.rules g.met.K.RecordKind.lawful c.rules_are_calls.ensures.allowed

pub returns-clause-list : goal.returns-clause-list
returns-clause-list g c = lists-keep g.K.RecordKind.rules g.met.K.RecordKind.lawful c.rules_are_calls.ensures.allowed

pub returns-clause-held : goal.returns-clause-held
returns-clause-held g c = held-keep g.K.RecordKind.rules g.met.K.RecordKind.lawful c.rules_are_calls.ensures.allowed
