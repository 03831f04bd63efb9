use Rattle.ioc_process.specs.Quieting.{request-quiet}
use Rattle.ioc_process.proofs.rules.requests_leave_quiet.Goals as goal

pub returns : goal.returns
returns g c = λ answers w s there closed quiet. request-quiet g.K.RecordKind.rules g.met.K.RecordKind.lawful answers w s there closed quiet
