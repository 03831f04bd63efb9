use Rattle.ioc_journal_file.proofs.Lines.{goes_on, ends, is_done}
use Rattle.ioc_journal_file.proofs.line.answers_of.Goals as goal

pub returns-in_default : goal.returns-in_default
returns-in_default c = ends c.loop.answers.items c.args.count c.loop.counter c.loop.rest.now _ c.loop-test.true c.in_default.ensures c.loop.invariant

pub loop-preserved : goal.loop-preserved
loop-preserved c =
    rw c.in_ok-push.ensures.items (goes_on c.loop.answers.items c.args.count c.loop.counter c.loop.rest.now c.in-Some.after.now c.in-Some.answer _ c.loop-test.true c.in-Some.ensures c.loop.invariant)

pub returns : goal.returns
returns c = is_done c.loop.answers.items c.args.count c.loop.counter c.loop.rest.now _ c.loop-test.false c.loop.invariant
