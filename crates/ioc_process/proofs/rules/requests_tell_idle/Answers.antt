use Rattle.ioc_process.specs.Telling.{requested-told}
use Rattle.ioc_process.proofs.rules.requests_tell_idle.Goals as goal

pub returns : goal.returns
returns g c = λ answers w after s requests r free n. requested-told g.K.RecordKind.rules g.met.K.RecordKind.lawful n answers r (free n)
