use Rattle.ioc_set.proofs.Began.{began}
use Rattle.ioc_set.proofs.laws.histories_begin_before.Goals as goal

pub returns : goal.returns
returns g c most h after moment event reply come_to does sound none = began g.K.RecordKind.rules g.D.Device.gives most h after moment event reply come_to does sound none
