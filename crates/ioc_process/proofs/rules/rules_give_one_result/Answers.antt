use Rattle.std.proofs.Common.{ap, sym, ◌∙◌}
use Rattle.ioc_process.specs.Processing.{Done, request}
use Rattle.ioc_process.specs.RulesAllowed.{request-allowed}
use Rattle.ioc_process.specs.RulesAlone.{request-is}
use Rattle.ioc_process.proofs.rules.rules_give_one_result.Goals as goal

pub returns-clause-some : goal.returns-clause-some
returns-clause-some g c = λ answers w s.
    let done = request g.K.RecordKind.rules answers w s in
    (done.world, done.requests, request-allowed g.K.RecordKind.rules g.met.K.RecordKind.lawful answers w s)

pub returns-clause-one : goal.returns-clause-one
returns-clause-one g c = λ answers w s after other requests others r q.
    let k = g.K.RecordKind.rules in
    let lawful = g.met.K.RecordKind.lawful in
    let same = sym (request-is k lawful answers r) ∙ request-is k lawful answers q in
    (ap (λ (d : Done _). d.world) same, ap (λ (d : Done _). d.requests) same)
