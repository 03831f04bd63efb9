use Rattle.ioc_events.proofs.NoneReady.{step-none}
use Rattle.ioc_events.proofs.notification_rules.events_leave_none_ready.Goals as goal

pub returns : goal.returns
returns g c = λ answers w after event reply requests r none. step-none g.K.RecordKind.rules g.met.K.RecordKind.lawful answers r none
