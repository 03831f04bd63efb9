use Rattle.std.proofs.Common.{◌≡◌, rules}
use Rattle.ioc_journal_lines.specs.Lines.{seal_line, read_seal}
use Rattle.ioc_journal_lines.proofs.Again.{seal_again, read_alone, not_none, not_refused}
use Rattle.ioc_journal_lines.proofs.seal.seal_of.Goals as goal

pub returns-in_default-clause-only : goal.returns-in_default-clause-only
returns-in_default-clause-only c = λ hash h is. absurd (not_none read_seal c.args.line.now (seal_line hash) hash is (seal_again hash h) c.in_default.ensures)

pub returns-then-not-is_same-clause-only : goal.returns-then-not-is_same-clause-only
returns-then-not-is_same-clause-only c = λ hash h is.
    let made : c.as_slice.result.now ≡ seal_line c.in-Some.hash = search rules in
    absurd (not_refused read_seal seal_line c.is_same.result c.args.line.now c.as_slice.result.now c.in-Some.hash hash is (seal_again hash h) c.in-Some.ensures made c.is_same.ensures.same c.if-not-is_same.true)

pub returns-clause-only : goal.returns-clause-only
returns-clause-only c = λ hash h is. read_alone read_seal c.args.line.now (seal_line hash) c.in-Some.hash hash is (seal_again hash h) c.in-Some.ensures
