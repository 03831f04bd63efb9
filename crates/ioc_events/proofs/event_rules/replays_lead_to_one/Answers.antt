use Rattle.ioc_events.proofs.Calling.{replay-is}
use Rattle.ioc_events.proofs.event_rules.replays_lead_to_one.Goals as goal

pub returns : goal.returns
returns g c = λ w after other entries r q. replay-is g.K.RecordKind.rules g.met.K.RecordKind.lawful r q
