use Rattle.ioc_journaled_set.proofs.GiveUpGiving.{cancel-gives-up}
use Rattle.ioc_journaled_set.proofs.give_up_laws.cancels_leave_nobody.Goals as goal

pub returns : goal.returns
returns g c = cancel-gives-up g.K.RecordKind.rules g.D.Device.gives g.met.K.RecordKind.lawful
