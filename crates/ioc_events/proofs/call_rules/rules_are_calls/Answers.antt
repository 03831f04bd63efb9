use Rattle.ioc_events.proofs.Calling.{calls-is, calls-allowed}
use Rattle.ioc_events.proofs.call_rules.rules_are_calls.Goals as goal

pub returns-clause-allowed : goal.returns-clause-allowed
returns-clause-allowed g c = λ answers w made. calls-allowed g.K.RecordKind.rules g.met.K.RecordKind.lawful answers w made

pub returns-clause-alone : goal.returns-clause-alone
returns-clause-alone g c = λ answers w after made requests r. calls-is g.K.RecordKind.rules g.met.K.RecordKind.lawful answers r
