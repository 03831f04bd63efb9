use Rattle.std.proofs.Common.{◌≡◌, List, length, sym, ap, ◌∙◌, subst, ⊎_elim, arith}
use Rattle.crossbeam_utils.specs.Seq.{cell_view}
use Rattle.ioc_journal.specs.declared.entry.JournalEntry.{JournalEntry}
use Rattle.ioc_journal.specs.declared.entry.Note.{Note}
use Rattle.ioc_journal.specs.declared.cell.View.{View}
use Rattle.ioc_journal.specs.Key.{Key, Has}
use Rattle.ioc_journal.specs.KeyLaws.{has_right}
use Rattle.ioc_journal.specs.Account.{desk_key, Added}
use Rattle.ioc_journal.specs.Places.{PlacesOf, JournalOf}
use Rattle.ioc_journal.proofs.Calls.{no_longer}
use Rattle.ioc_journal.proofs.CountsThen.{adds}
use Rattle.ioc_journal.proofs.Appending.{one-set, ends-so, desk-then, call-then, receipt-then, begun-so, kept-then}
use Rattle.ioc_journal.proofs.journal.Journal.append.Goals as goal

pub append-pass-requires-clause-apart : goal.append-pass-requires-clause-apart
append-pass-requires-clause-apart g c = λ key a b.
    ⊎_elim (λ (e : desk_key c.desk.inside.number ≡ key). c.requires.set.1 key a (sym (ap (λ (p : Key). p.0) e))) (λ (b : ⊥). b) (subst (λ (v : View). Has key v.owns) c.desk.invariant.holds b)

pub new-requires : goal.new-requires
new-requires g c =
    let e = c.append-pass.ensures in
    record { ends = receipt-then (one-set c.self.invariant c.desk.invariant c.desk.view_is c.args.made c.requires.stored c.requires.may c.append-pass.ensures.goes_on) c.self.invariant _ _ _ (c.len-index.ensures.count ∙ sym (ap (λ (j : JournalOf Note). length j.filled) c.self.view_is)) e.receipt.0 e.receipt.2 }

pub invariant_of-self : goal.invariant_of-self
invariant_of-self g c =
    let e = c.append-pass.ensures in
    kept-then (one-set c.self.invariant c.desk.invariant c.desk.view_is c.args.made c.requires.stored c.requires.may c.append-pass.ensures.goes_on) c.self.invariant _ _ _
    (λ has. e.born _ (has_right _ (cell_view c.args.set.now).owns (cell_view c.desk.inside.pass).owns (subst (Has (desk_key c.desk.inside.number)) (sym (ap (λ (x : View). x.owns) c.desk.invariant.holds)) has)))
    e.keeper.0 e.keeper.1 (ap (λ (p : PlacesOf JournalEntry). p.filled) c.fill.ensures) (sym c.is_request-is_request.ensures.one) c.add-tickets.ensures.tickets c.record_event-share.ensures.book _ c.count_dropped.ensures

pub invariant_of-desk : goal.invariant_of-desk
invariant_of-desk g c = desk-then (one-set c.self.invariant c.desk.invariant c.desk.view_is c.args.made c.requires.stored c.requires.may c.append-pass.ensures.goes_on) c.desk.invariant _ _ c.append-pass.ensures.desk.0 c.append-pass.ensures.desk.1

pub returns-clause-call : goal.returns-clause-call
returns-clause-call g c = call-then (one-set c.self.invariant c.desk.invariant c.desk.view_is c.args.made c.requires.stored c.requires.may c.append-pass.ensures.goes_on) _ _ c.desk.view_is c.append-pass.ensures.desk.1

pub returns-clause-added : goal.returns-clause-added
returns-clause-added g c =
    let i = c.self.invariant in
    let e = c.append-pass.ensures in
    let ends = ap (λ (v : View). v.seen) e.keeper.1 ∙ ends-so (one-set c.self.invariant c.desk.invariant c.desk.view_is c.args.made c.requires.stored c.requires.may c.append-pass.ensures.goes_on) in
    subst (λ (l : List Note). Added g.K.RecordKind.rules g.B.JournalName.base (cell_view c.args.set.now).seen (cell_view c.args.set.now).owns g.S.EntryName.entry l (cell_view c.append-pass.new.master).seen) (ap (λ (j : JournalOf Note). j.filled) c.self.view_is)
    (record { desk = c.desk.inside.number; call = c.desk.inside.next; own = (cell_view c.desk.inside.pass).owns; sound = i.sound; goes_on = e.goes_on.0; legal = i.account.legal; ends = ends })

pub returns-clause-tickets : goal.returns-clause-tickets
returns-clause-tickets g c few =
    c.new.ensures.tickets
    ∙ begun-so (one-set c.self.invariant c.desk.invariant c.desk.view_is c.args.made c.requires.stored c.requires.may c.append-pass.ensures.goes_on) c.self.invariant _ _ (sym c.is_request-is_request.ensures.one)
    c.add-tickets.ensures.begun _ (ap (λ (v : View). v.seen) c.append-pass.ensures.keeper.1) few

pub record_event-share-requires-clause-adds : goal.record_event-share-requires-clause-adds
record_event-share-requires-clause-adds g c =
    adds g.K.RecordKind.rules _ _ c.args.counts.share c.args.counts.before c.args.counts.after (one-set c.self.invariant c.desk.invariant c.desk.view_is c.args.made c.requires.stored c.requires.may c.append-pass.ensures.goes_on).counts

pub overflow_add-desk : goal.overflow_add-desk
overflow_add-desk g c =
    let longer = no_longer (cell_view c.desk.inside.pass).seen (cell_view c.self.inside.pass).seen (cell_view c.desk.inside.pass).owns c.append-pass.ensures.goes_on.1 in
    let all = ap (λ (j : JournalOf Note). length j.filled) c.self.view_is in
    omega (arith, longer, all, c.desk.invariant.count, c.len-index.ensures.count, c.len-index.ensures.few)
