use Rattle.std.proofs.Common.{◌≡◌, rules}
use Rattle.ioc_journal_file.specs.Bases.{next_line}
use Rattle.ioc_journal_file.specs.BaseReading.{next_at}
use Rattle.ioc_journal_file.proofs.BasesAgain.{next_again, read_alone, none_unread, none_refused}
use Rattle.ioc_journal_file.proofs.next_file.next_of.Goals as goal

pub returns-in_default-clause-only : goal.returns-in_default-clause-only
returns-in_default-clause-only c = λ next h is. absurd (none_unread next_at c.args.line.now (next_line next) next is (next_again next h) c.in_default.ensures)

pub returns-then-not-is_same-clause-only : goal.returns-then-not-is_same-clause-only
returns-then-not-is_same-clause-only c = λ next h is.
    let made : c.as_slice.result.now ≡ next_line c.in-Some.next = search rules in
    absurd (none_refused next_at next_line c.is_same.result c.args.line.now c.as_slice.result.now c.in-Some.next next is (next_again next h) c.in-Some.ensures made c.is_same.ensures c.if-not-is_same.true)

pub returns-clause-only : goal.returns-clause-only
returns-clause-only c = λ next h is. read_alone next_at c.args.line.now (next_line next) c.in-Some.next next is (next_again next h) c.in-Some.ensures
