use Rattle.ioc_saved.proofs.Cuts.{shorter, last_here, last_further}
use Rattle.ioc_saved.proofs.words.last_line.Goals as goal

pub returns-then-is_empty : goal.returns-then-is_empty
returns-then-is_empty c =
    last_here c.loop-rest.rest.now c.split.result.0.now c.split.result.1.now _ c.loop-rest-test.ensures c.split.ensures.before c.split.ensures.behind c.if-is_empty.ensures c.loop-rest.invariant

pub loop-rest-smaller : goal.loop-rest-smaller
loop-rest-smaller c = shorter c.loop-rest.rest.now c.split.result.1.now c.loop-rest-test.ensures c.split.ensures.behind

pub loop-rest-preserved : goal.loop-rest-preserved
loop-rest-preserved c =
    last_further c.loop-rest.rest.now c.split.result.1.now _ c.loop-rest-test.ensures c.split.ensures.behind c.if-is_empty.ensures c.loop-rest.invariant
