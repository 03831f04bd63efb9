use Rattle.std.proofs.Common.{subst}
use Rattle.crossbeam_utils.specs.Seq.{cell_view}
use Rattle.ioc_journal.specs.declared.cell.View.{View}
use Rattle.ioc_journal.specs.Line.{Continues}
use Rattle.ioc_journal.proofs.ending.learn_whole.Goals as goal

pub returns-clause-goes_on : goal.returns-clause-goes_on
returns-clause-goes_on g c = subst (λ (v : View). Continues v.seen v.owns (cell_view c.args.master.now).seen) c.whole-theirs.ensures.given.2 c.take_in.ensures.goes_on
