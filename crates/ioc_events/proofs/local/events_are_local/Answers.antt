use Rattle.ioc_events.proofs.LocalEvents.{event-local}
use Rattle.ioc_events.proofs.local.events_are_local.Goals as goal

pub returns : goal.returns
returns g c mine answers = event-local g.K.RecordKind.rules g.met.K.RecordKind.lawful mine answers
