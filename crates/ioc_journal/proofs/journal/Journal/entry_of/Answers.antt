use Rattle.std.proofs.Common.{◌≡◌, ◌+◌, ◌-◌, sym, ap, ◌∙◌, subst, arith}
use Rattle.std.specs.Option.{option_map}
use Rattle.std.specs.Borrow.{Bor}
use Rattle.std.specs.Prelude.{slice_get, List}
use Rattle.crossbeam_utils.specs.Seq.{cell_view}
use Rattle.ioc_journal.specs.declared.entry.JournalEntry.{JournalEntry}
use Rattle.ioc_journal.specs.declared.entry.Note.{Note}
use Rattle.ioc_journal.specs.Line.{Begins}
use Rattle.ioc_journal.specs.Account.{IsEntryOf, calls}
use Rattle.ioc_journal.specs.Places.{JournalOf}
use Rattle.ioc_journal.proofs.Ends.{is_entry_of, is_within}
use Rattle.ioc_journal.proofs.Written.{entry_behind}
use Rattle.ioc_journal.proofs.journal.Journal.entry_of.Goals as goal

pub unreachable-requires : goal.unreachable-requires
unreachable-requires g c =
    let seen = (cell_view c.self.inside.pass).seen in
    let mine = (cell_view c.receipt.inside.pass).seen in
    let place = c.receipt.inside.place in
    let dropped = c.self.inside.dropped in
    let begins : Begins mine seen = subst (λ (j : JournalOf Note). Begins mine j.filled) (sym c.self.view_is) (subst (λ (l : List Note). Begins l c.args.self.now.filled) (sym c.receipt.view_is) c.requires.begins) in
    let behind : dropped + (place - dropped) ≡ place = omega arith in
    is_within mine seen place c.receipt.invariant.ends begins
    (sym (ap (λ (l : List JournalEntry). slice_get l (place - dropped)) c.self.invariant.items_are ∙ (entry_behind dropped (calls seen) (place - dropped) ∙ ap (slice_get (calls seen)) behind))
    ∙ (sym c.at.ensures ∙ ap (option_map (λ (e : Bor JournalEntry). e.now)) c.in_default.is))

pub returns-clause-entry : goal.returns-clause-entry
returns-clause-entry g c =
    let seen = (cell_view c.self.inside.pass).seen in
    let mine = (cell_view c.receipt.inside.pass).seen in
    let place = c.receipt.inside.place in
    let dropped = c.self.inside.dropped in
    let begins : Begins mine seen = subst (λ (j : JournalOf Note). Begins mine j.filled) (sym c.self.view_is) (subst (λ (l : List Note). Begins l c.args.self.now.filled) (sym c.receipt.view_is) c.requires.begins) in
    let kept = c.if-receipt-self.false in
    let behind : dropped + (place - dropped) ≡ place = omega (arith, kept) in
    subst (λ (j : JournalOf Note). IsEntryOf c.args.receipt.now j.filled c.in-Some.entry.now) c.self.view_is
    (subst (λ (l : List Note). IsEntryOf l seen c.in-Some.entry.now) c.receipt.view_is
    (is_entry_of mine seen place c.in-Some.entry.now c.receipt.invariant.ends begins
    (sym (ap (λ (l : List JournalEntry). slice_get l (place - dropped)) c.self.invariant.items_are ∙ (entry_behind dropped (calls seen) (place - dropped) ∙ ap (slice_get (calls seen)) behind))
    ∙ (sym c.at.ensures ∙ ap (option_map (λ (e : Bor JournalEntry). e.now)) c.in-Some.is))))
