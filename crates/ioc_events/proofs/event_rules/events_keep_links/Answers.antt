use Rattle.ioc_events.proofs.QuietEvents.{step-keeps}
use Rattle.ioc_events.proofs.event_rules.events_keep_links.Goals as goal

pub returns : goal.returns
returns g c = λ answers w after event reply requests r closed. step-keeps g.K.RecordKind.rules g.met.K.RecordKind.lawful answers r closed
