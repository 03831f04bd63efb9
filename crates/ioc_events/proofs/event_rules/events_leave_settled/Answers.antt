use Rattle.ioc_events.proofs.QuietEvents.{step-settled}
use Rattle.ioc_events.proofs.Calling.{replay-settled}
use Rattle.ioc_events.proofs.event_rules.events_leave_settled.Goals as goal

pub returns-clause-event : goal.returns-clause-event
returns-clause-event g c = λ answers w after event reply requests r settled. step-settled g.K.RecordKind.rules g.met.K.RecordKind.lawful answers r settled

pub returns-clause-events : goal.returns-clause-events
returns-clause-events g c = λ w after entries r settled. replay-settled g.K.RecordKind.rules g.met.K.RecordKind.lawful r settled
