use Rattle.std.proofs.lemmas.Result.{err_from_is_err_and}
use Rattle.ioc_dbparse.specs.Statements.{statement_at}
use Rattle.ioc_dbparse.proofs.Loop.{fails}
use Rattle.ioc_dbparse.proofs.statements.statements_at.Goals as goal

pub returns-in_err-statement_at : goal.returns-in_err-statement_at
returns-in_err-statement_at g c =
    let p = err_from_is_err_and c.from_residual.result c.from_residual.ensures.1 in
    rw (p.1, p.2) (fails (statement_at g.B.Builder.rules c.args.turns c.args.last) _ c.args.turns _ c.loop.counter c.loop.builder c.loop.tokens c.in_err-statement_at.field-0.0 c.loop-test.true c.in_err-statement_at.ensures c.loop.invariant)
