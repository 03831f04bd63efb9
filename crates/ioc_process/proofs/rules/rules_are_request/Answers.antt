use Rattle.ioc_process.specs.RulesAllowed.{request-allowed}
use Rattle.ioc_process.specs.RulesAlone.{request-is}
use Rattle.ioc_process.proofs.rules.rules_are_request.Goals as goal

pub returns-clause-allowed : goal.returns-clause-allowed
returns-clause-allowed g c = λ answers w s. request-allowed g.K.RecordKind.rules g.met.K.RecordKind.lawful answers w s

pub returns-clause-alone : goal.returns-clause-alone
returns-clause-alone g c = λ answers w after s requests r. request-is g.K.RecordKind.rules g.met.K.RecordKind.lawful answers r
