use Rattle.ioc_set.proofs.AwaitingEvents.{step-awaited}
use Rattle.ioc_set.proofs.awaiting_laws.events_count_awaited.Goals as goal

pub returns : goal.returns
returns g c = λ answers w after event reply requests r settled. step-awaited g.K.RecordKind.rules g.met.K.RecordKind.lawful answers r settled
