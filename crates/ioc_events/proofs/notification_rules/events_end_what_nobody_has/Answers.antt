use Rattle.ioc_events.proofs.Ended.{step-ends}
use Rattle.ioc_events.proofs.notification_rules.events_end_what_nobody_has.Goals as goal

pub returns : goal.returns
returns g c = λ answers w after event reply requests r is empty. step-ends g.K.RecordKind.rules g.met.K.RecordKind.lawful answers r is empty
