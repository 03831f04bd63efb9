use Rattle.std.proofs.Common.{◌∙◌}
use Rattle.ioc_dblex.proofs.Searching.{front_all, back_none, front_at, back_at}
use Rattle.ioc_dblex.proofs.search.split_at_byte.Goals as goal

pub returns-in-Some-clause-front : goal.returns-in-Some-clause-front
returns-in-Some-clause-front c = c.split_at.ensures.front ∙ front_at c.args.c c.args.bytes.now c.in-Some.place c.in-Some.ensures.0.high c.in-Some.ensures.0.before c.in-Some.ensures.1

pub returns-in-Some-clause-back : goal.returns-in-Some-clause-back
returns-in-Some-clause-back c = c.split_at.ensures.back ∙ back_at c.args.c c.args.bytes.now c.in-Some.place c.in-Some.ensures.0.high c.in-Some.ensures.0.before c.in-Some.ensures.1

pub returns-in-None-clause-front : goal.returns-in-None-clause-front
returns-in-None-clause-front c = front_all c.args.c c.args.bytes.now c.in-None.ensures

pub returns-in-None-clause-back : goal.returns-in-None-clause-back
returns-in-None-clause-back c = back_none c.args.c c.args.bytes.now c.in-None.ensures
