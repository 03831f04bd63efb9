use Rattle.ioc_events.proofs.StepLaws.{step-is, step-allowed}
use Rattle.ioc_events.proofs.event_rules.rules_are_steps.Goals as goal

pub returns-clause-allowed : goal.returns-clause-allowed
returns-clause-allowed g c = λ answers w event. step-allowed g.K.RecordKind.rules g.met.K.RecordKind.lawful answers w event

pub returns-clause-alone : goal.returns-clause-alone
returns-clause-alone g c = λ answers w after event reply requests r. step-is g.K.RecordKind.rules g.met.K.RecordKind.lawful answers r
