use Rattle.std.proofs.Common.{◌≡◌, rules}
use Rattle.ioc_journal_lines.specs.Lines.{header_line, read_header}
use Rattle.ioc_journal_lines.proofs.Again.{header_again, read_alone, not_none, not_refused}
use Rattle.ioc_journal_lines.proofs.header.header_of.Goals as goal

pub returns-in_default-clause-only : goal.returns-in_default-clause-only
returns-in_default-clause-only c = λ header h is. absurd (not_none read_header c.args.line.now (header_line header) header is (header_again header h) c.in_default.ensures)

pub returns-then-not-is_same-clause-only : goal.returns-then-not-is_same-clause-only
returns-then-not-is_same-clause-only c = λ header h is.
    let made : c.as_slice.result.now ≡ header_line c.in-Some.header = search rules in
    absurd (not_refused read_header header_line c.is_same.result c.args.line.now c.as_slice.result.now c.in-Some.header header is (header_again header h) c.in-Some.ensures made c.is_same.ensures.same c.if-not-is_same.true)

pub returns-clause-only : goal.returns-clause-only
returns-clause-only c = λ header h is. read_alone read_header c.args.line.now (header_line header) c.in-Some.header header is (header_again header h) c.in-Some.ensures
