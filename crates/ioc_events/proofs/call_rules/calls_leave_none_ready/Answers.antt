use Rattle.ioc_events.proofs.Calling.{calls-none}
use Rattle.ioc_events.proofs.call_rules.calls_leave_none_ready.Goals as goal

pub returns : goal.returns
returns g c = λ answers w after made requests r none. calls-none g.K.RecordKind.rules g.met.K.RecordKind.lawful answers r none
