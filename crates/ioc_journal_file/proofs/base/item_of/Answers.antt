use Rattle.std.proofs.Common.{◌≡◌, rules}
use Rattle.ioc_journal_file.specs.Bases.{item_line}
use Rattle.ioc_journal_file.specs.BaseReading.{item_at}
use Rattle.ioc_journal_file.proofs.BasesAgain.{item_again, read_alone, none_unread, none_refused}
use Rattle.ioc_journal_file.proofs.base.item_of.Goals as goal

pub returns-in_default-clause-only : goal.returns-in_default-clause-only
returns-in_default-clause-only c = λ item h is. absurd (none_unread item_at c.args.line.now (item_line item) item is (item_again item h) c.in_default.ensures)

pub returns-then-not-is_same-clause-only : goal.returns-then-not-is_same-clause-only
returns-then-not-is_same-clause-only c = λ item h is.
    let made : c.as_slice.result.now ≡ item_line c.in-Some.item = search rules in
    absurd (none_refused item_at item_line c.is_same.result c.args.line.now c.as_slice.result.now c.in-Some.item item is (item_again item h) c.in-Some.ensures made c.is_same.ensures c.if-not-is_same.true)

pub returns-clause-only : goal.returns-clause-only
returns-clause-only c = λ item h is. read_alone item_at c.args.line.now (item_line item) c.in-Some.item item is (item_again item h) c.in-Some.ensures
