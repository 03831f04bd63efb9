use Rattle.std.proofs.Common.{◌+◌, arith}
use Rattle.ioc_saved.proofs.Cuts.{shorter}
use Rattle.ioc_saved.proofs.FilesAgain.{values_here, values_bad, values_passed, values_more}
use Rattle.ioc_saved.proofs.file.values_of.Goals as goal

pub returns-then-is_empty : goal.returns-then-is_empty
returns-then-is_empty c =
    values_here c.loop-rest.values.items (c.loop-rest.number + 1) c.loop-rest.rest.now c.split.result.1.now _ c.loop-rest-test.ensures c.split.ensures.behind c.if-is_empty.ensures c.loop-rest.invariant.0

pub returns-in-Bad : goal.returns-in-Bad
returns-in-Bad c =
    values_bad c.loop-rest.values.items (c.loop-rest.number + 1) c.loop-rest.rest.now c.split.result.0.now c.split.result.1.now _ c.loop-rest-test.ensures c.split.ensures.before c.split.ensures.behind
    c.if-is_empty.ensures c.in-Bad.ensures c.loop-rest.invariant.0

pub loop-rest-smaller-in-Passed : goal.loop-rest-smaller-in-Passed
loop-rest-smaller-in-Passed c = shorter c.loop-rest.rest.now c.split.result.1.now c.loop-rest-test.ensures c.split.ensures.behind

pub loop-rest-preserved-in-Passed : goal.loop-rest-preserved-in-Passed
loop-rest-preserved-in-Passed c = (
  values_passed c.loop-rest.values.items (c.loop-rest.number + 1) c.loop-rest.rest.now c.split.result.0.now c.split.result.1.now _ c.loop-rest-test.ensures c.split.ensures.before c.split.ensures.behind
      c.if-is_empty.ensures c.in-Passed.ensures c.loop-rest.invariant.0,
  (let less = shorter c.loop-rest.rest.now c.split.result.1.now c.loop-rest-test.ensures c.split.ensures.behind in omega (arith, less)),
)

pub loop-rest-smaller : goal.loop-rest-smaller
loop-rest-smaller c = shorter c.loop-rest.rest.now c.split.result.1.now c.loop-rest-test.ensures c.split.ensures.behind

pub loop-rest-preserved : goal.loop-rest-preserved
loop-rest-preserved c = (
  rw c.in_ok-push-in-Value.ensures.items
      (values_more c.loop-rest.values.items (c.loop-rest.number + 1) c.loop-rest.rest.now c.split.result.0.now c.split.result.1.now c.in-Value.value _ c.loop-rest-test.ensures c.split.ensures.before c.split.ensures.behind
      c.if-is_empty.ensures c.in-Value.ensures c.loop-rest.invariant.0),
  (let less = shorter c.loop-rest.rest.now c.split.result.1.now c.loop-rest-test.ensures c.split.ensures.behind in omega (arith, less)),
)
