use Rattle.ioc_events.proofs.LocalEvents.{call-local}
use Rattle.ioc_events.proofs.Apart.{calls-within}
use Rattle.ioc_events.proofs.call_rules.calls_are_local.Goals as goal

pub returns-clause-local : goal.returns-clause-local
returns-clause-local g c = λ mine answers. call-local g.K.RecordKind.rules g.met.K.RecordKind.lawful mine answers

pub returns-clause-within : goal.returns-clause-within
returns-clause-within g c = λ mine w made counted within not_cancel. calls-within g.K.RecordKind.rules g.met.K.RecordKind.lawful mine w made counted within not_cancel
