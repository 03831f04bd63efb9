use Rattle.ioc_events.proofs.Calling.{calls-records}
use Rattle.ioc_events.proofs.call_rules.calls_keep_records.Goals as goal

pub returns : goal.returns
returns g c = λ answers w after made requests r closed. calls-records g.K.RecordKind.rules g.met.K.RecordKind.lawful answers r closed
