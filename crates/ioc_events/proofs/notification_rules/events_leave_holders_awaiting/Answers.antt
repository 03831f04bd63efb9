use Rattle.ioc_events.proofs.ToldEvents.{step-awaits}
use Rattle.ioc_events.proofs.Calling.{replay-awaits}
use Rattle.ioc_events.proofs.notification_rules.events_leave_holders_awaiting.Goals as goal

pub returns-clause-event : goal.returns-clause-event
returns-clause-event g c = λ answers w after event reply requests r settled await. step-awaits g.K.RecordKind.rules g.met.K.RecordKind.lawful answers r settled await

pub returns-clause-events : goal.returns-clause-events
returns-clause-events g c = λ w after entries r settled await. replay-awaits g.K.RecordKind.rules g.met.K.RecordKind.lawful r settled await
