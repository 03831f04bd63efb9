use Rattle.ioc_events.proofs.NoneReady.{cancel-gives_up}
use Rattle.ioc_events.proofs.notification_rules.cancels_give_up.Goals as goal

pub returns : goal.returns
returns g c = λ answers w after number reply requests r live. cancel-gives_up g.K.RecordKind.rules g.met.K.RecordKind.lawful answers w after number reply requests r live
