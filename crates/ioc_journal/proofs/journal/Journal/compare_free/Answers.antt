use Rattle.std.proofs.Common.{◌≤◌, ◌+◌, length, subst, arith}
use Rattle.crossbeam_utils.specs.Seq.{cell_view}
use Rattle.ioc_journal.specs.declared.entry.Note.{Note}
use Rattle.ioc_journal.specs.Places.{JournalOf}
use Rattle.ioc_journal.proofs.Written.{as_many}
use Rattle.ioc_journal.proofs.journal.Journal.compare_free.Goals as goal

pub returns-clause-within : goal.returns-clause-within
returns-clause-within g c =
    let i = c.self.invariant in
    let many = as_many c.self.inside.entries.filled c.self.inside.dropped (cell_view c.self.inside.pass).seen i.items_are i.within in
    let within = c.compare_free.ensures.within in
    subst (λ (j : JournalOf Note). length j.filled + c.args.free.now ≤ j.dropped + j.given) c.self.view_is (omega (arith, many, within))
