use Rattle.std.proofs.Common.{◌≡◌, rules}
use Rattle.ioc_journal_lines.specs.Lines.{base_line, read_base}
use Rattle.ioc_journal_lines.proofs.Again.{base_again, read_alone, not_none, not_refused}
use Rattle.ioc_journal_lines.proofs.base.base_of.Goals as goal

pub returns-in_default-clause-only : goal.returns-in_default-clause-only
returns-in_default-clause-only c = λ saved h is. absurd (not_none read_base c.args.line.now (base_line saved) saved is (base_again saved (c.saved_lines_read_back.ensures saved h)) c.in_default.ensures)

pub returns-then-not-is_same-clause-only : goal.returns-then-not-is_same-clause-only
returns-then-not-is_same-clause-only c = λ saved h is.
    let made : c.as_slice.result.now ≡ base_line c.in-Some.saved = search rules in
    absurd (not_refused read_base base_line c.is_same.result c.args.line.now c.as_slice.result.now c.in-Some.saved saved is (base_again saved (c.saved_lines_read_back.ensures saved h)) c.in-Some.ensures made c.is_same.ensures.same c.if-not-is_same.true)

pub returns-clause-only : goal.returns-clause-only
returns-clause-only c = λ saved h is. read_alone read_base c.args.line.now (base_line saved) c.in-Some.saved saved is (base_again saved (c.saved_lines_read_back.ensures saved h)) c.in-Some.ensures
