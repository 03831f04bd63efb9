use Rattle.ioc_events.proofs.Ended.{calls-end}
use Rattle.ioc_events.proofs.call_rules.calls_end_what_nobody_has.Goals as goal

pub returns : goal.returns
returns g c = λ answers w after made requests r is empty. calls-end g.K.RecordKind.rules g.met.K.RecordKind.lawful answers r is empty
