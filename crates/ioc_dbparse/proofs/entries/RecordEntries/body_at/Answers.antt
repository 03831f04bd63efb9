use Rattle.std.proofs.lemmas.Result.{err_from_is_err_and}
use Rattle.ioc_dbparse.specs.Statements.{entry_at}
use Rattle.ioc_dbparse.proofs.Loop.{fails}
use Rattle.ioc_dbparse.proofs.entries.RecordEntries.body_at.Goals as goal

pub returns-in_err-entry_at : goal.returns-in_err-entry_at
returns-in_err-entry_at g c =
    let p = err_from_is_err_and c.from_residual.result c.from_residual.ensures.1 in
    rw (p.1, p.2) (fails (entry_at g.B.Builder.rules c.args.self.now.last c.args.self.now.number) _ c.args.turns _ c.loop.counter c.loop.builder c.loop.tokens c.in_err-entry_at.field-0.0 c.loop-test.true c.in_err-entry_at.ensures c.loop.invariant)
