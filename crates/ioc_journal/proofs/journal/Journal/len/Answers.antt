use Rattle.std.proofs.Common.{length, ap, arith}
use Rattle.crossbeam_utils.specs.Seq.{cell_view}
use Rattle.ioc_journal.specs.declared.entry.Note.{Note}
use Rattle.ioc_journal.specs.Places.{JournalOf}
use Rattle.ioc_journal.proofs.Written.{as_many}
use Rattle.ioc_journal.proofs.journal.Journal.len.Goals as goal

pub overflow_add-result : goal.overflow_add-result
overflow_add-result g c = omega (arith, c.self.invariant.few, c.len.ensures.count, c.len.ensures.within, c.len.ensures.few)

pub returns-clause-count : goal.returns-clause-count
returns-clause-count g c =
    let i = c.self.invariant in
    let many = as_many c.self.inside.entries.filled c.self.inside.dropped (cell_view c.self.inside.pass).seen i.items_are i.within in
    let seen = ap (λ (j : JournalOf Note). length j.filled) c.self.view_is in
    omega (arith, many, c.len.ensures.count, seen)

pub returns-clause-few : goal.returns-clause-few
returns-clause-few g c = omega (arith, c.self.invariant.few, c.len.ensures.count, c.len.ensures.within, c.len.ensures.few)
