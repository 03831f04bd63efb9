use Rattle.ioc_process.specs.RulesLaws.{requested-leaves}
use Rattle.ioc_process.proofs.rules.requests_leave_marks.Goals as goal

pub returns : goal.returns
returns g c = λ answers w after s requests r. requested-leaves g.K.RecordKind.rules g.met.K.RecordKind.lawful answers r
