use Rattle.std.proofs.Common.{◌∙◌}
use Rattle.ioc_dblex.proofs.LineLemmas.{line_splits}
use Rattle.ioc_dblex.proofs.LineEnds.{first_at, behind_at, all_first, none_behind, one_line_feed}
use Rattle.ioc_dblex.proofs.lines.split_line.Goals as goal

pub returns-in-Some-clause-first : goal.returns-in-Some-clause-first
returns-in-Some-clause-first c =
    let found = c.in-Some.ensures in
    line_splits c.args.text.now _ _ (c.split_at.ensures.front ∙ first_at c.args.text.now c.in-Some.place found.0.high found.0.before found.1) (c.split_at.ensures.back ∙ behind_at c.args.text.now c.in-Some.place found.0.high found.0.before found.1)

pub returns-in-Some-clause-one : goal.returns-in-Some-clause-one
returns-in-Some-clause-one c =
    let found = c.in-Some.ensures in
    rw (c.split_at.ensures.front ∙ first_at c.args.text.now c.in-Some.place found.0.high found.0.before found.1) (one_line_feed c.args.text.now)

pub returns-in-None-clause-first : goal.returns-in-None-clause-first
returns-in-None-clause-first c = line_splits c.args.text.now _ _ (all_first c.args.text.now c.in-None.ensures) (none_behind c.args.text.now c.in-None.ensures)

pub returns-in-None-clause-one : goal.returns-in-None-clause-one
returns-in-None-clause-one c = rw (all_first c.args.text.now c.in-None.ensures) (one_line_feed c.args.text.now)
