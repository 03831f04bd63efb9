use Rattle.std.proofs.Common.{◌≡◌, rules}
use Rattle.ioc_journal_lines.specs.Lines.{end_line, read_end}
use Rattle.ioc_journal_lines.proofs.Again.{end_again, read_alone, not_none, not_refused}
use Rattle.ioc_journal_lines.proofs.ending.end_of.Goals as goal

pub returns-in_default-clause-only : goal.returns-in_default-clause-only
returns-in_default-clause-only c = λ place h is. absurd (not_none read_end c.args.line.now (end_line place) place is (end_again place h) c.in_default.ensures)

pub returns-then-not-is_same-clause-only : goal.returns-then-not-is_same-clause-only
returns-then-not-is_same-clause-only c = λ place h is.
    let made : c.as_slice.result.now ≡ end_line c.in-Some.place = search rules in
    absurd (not_refused read_end end_line c.is_same.result c.args.line.now c.as_slice.result.now c.in-Some.place place is (end_again place h) c.in-Some.ensures made c.is_same.ensures.same c.if-not-is_same.true)

pub returns-clause-only : goal.returns-clause-only
returns-clause-only c = λ place h is. read_alone read_end c.args.line.now (end_line place) c.in-Some.place place is (end_again place h) c.in-Some.ensures
