use Rattle.std.proofs.Common.{length}
use Rattle.ioc_dblex.proofs.Begun.{begun_more}
use Rattle.ioc_dblex.proofs.expansion.behind_begun.Goals as goal

pub loop-preserved : goal.loop-preserved
loop-preserved c =
    begun_more (length c.args.text.now) c.loop.counter c.args.past c.loop.rest.now c.skip_gap-solid.result.now _ c.loop-test.true c.skip_gap-solid.ensures c.loop.invariant _ c.if-solid-past.false c.behind_token-rest.ensures
