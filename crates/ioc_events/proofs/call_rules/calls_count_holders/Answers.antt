use Rattle.ioc_events.proofs.Ended.{calls-counted}
use Rattle.ioc_events.proofs.call_rules.calls_count_holders.Goals as goal

pub returns : goal.returns
returns g c = λ answers w after made requests r is. calls-counted g.K.RecordKind.rules g.met.K.RecordKind.lawful answers r is
