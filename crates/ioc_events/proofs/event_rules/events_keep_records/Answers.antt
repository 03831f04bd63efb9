use Rattle.ioc_events.proofs.KeptRecords.{step-records}
use Rattle.ioc_events.proofs.event_rules.events_keep_records.Goals as goal

pub returns : goal.returns
returns g c = λ answers w after event reply requests r closed. step-records g.K.RecordKind.rules g.met.K.RecordKind.lawful answers r closed
