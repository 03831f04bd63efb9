use Rattle.ioc_events.proofs.Calling.{calls-settled}
use Rattle.ioc_events.proofs.call_rules.calls_leave_settled.Goals as goal

pub returns : goal.returns
returns g c = λ answers w after made requests r settled. calls-settled g.K.RecordKind.rules g.met.K.RecordKind.lawful answers r settled
