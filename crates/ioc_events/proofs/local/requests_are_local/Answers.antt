use Rattle.ioc_events.proofs.Besides.{request-local}
use Rattle.ioc_events.proofs.local.requests_are_local.Goals as goal

pub returns : goal.returns
returns g c mine answers = request-local g.K.RecordKind.rules g.met.K.RecordKind.lawful mine answers
