use Rattle.std.proofs.Common.{◌≤◌, ◌<◌, ◌-◌, ◌⊎◌, inr, length, ap, arith}
use Rattle.std.specs.Borrow.{Bor}
use Rattle.crossbeam_utils.specs.Seq.{cell_view}
use Rattle.ioc_journal.specs.declared.entry.JournalEntry.{JournalEntry}
use Rattle.ioc_journal.specs.declared.entry.Note.{Note}
use Rattle.ioc_journal.specs.Places.{JournalOf}
use Rattle.ioc_journal.proofs.Excerpts.{none_past}
use Rattle.ioc_journal.proofs.Written.{as_many}
use Rattle.ioc_journal.proofs.journal.Journal.entry_at.Goals as goal

pub returns-clause-none : goal.returns-clause-none
returns-clause-none g c =
    let i = c.self.invariant in
    let many = as_many c.self.inside.entries.filled c.self.inside.dropped (cell_view c.self.inside.pass).seen i.items_are i.within in
    let kept = c.if-place-self.false in
    let shown = ap (λ (j : JournalOf Note). length j.filled) c.self.view_is in
    none_past ((c.args.place < c.args.self.now.dropped) ⊎ (length c.args.self.now.filled ≤ c.args.place)) (λ (e : Bor JournalEntry). e.now) c.at.result c.self.inside.entries.filled (c.args.place - c.self.inside.dropped) c.at.ensures
    (λ past. inr (omega (arith, past, many, kept, shown)))
