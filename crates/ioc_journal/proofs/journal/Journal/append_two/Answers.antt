use Rattle.std.proofs.Common.{◌≡◌, ◌≢◌, ℕ, List, [], ◌∷◌, ◌++◌, length, sym, ap, ◌∙◌, subst, ⊎_elim, arith}
use Rattle.crossbeam_utils.specs.Seq.{cell_view}
use Rattle.ioc_journal.specs.declared.entry.JournalEntry.{JournalEntry}
use Rattle.ioc_journal.specs.declared.entry.Note.{Note}
use Rattle.ioc_journal.specs.declared.cell.View.{View}
use Rattle.ioc_journal.specs.Key.{Key, Has}
use Rattle.ioc_journal.specs.KeyLaws.{has_left, has_right, has_either}
use Rattle.ioc_journal.specs.Account.{desk_key, AreNoDesks, AreRecords, AddedByBoth}
use Rattle.ioc_journal.specs.Places.{PlacesOf, JournalOf}
use Rattle.ioc_journal.proofs.Calls.{no_longer}
use Rattle.ioc_journal.proofs.CountsThen.{adds}
use Rattle.ioc_journal.proofs.Appending.{two-sets, ends-so, desk-then, call-then, receipt-then, begun-so, kept-then}
use Rattle.ioc_journal.proofs.journal.Journal.append_two.Goals as goal

pub deal-pass-requires-clause-within : goal.deal-pass-requires-clause-within
deal-pass-requires-clause-within g c = λ k has.
    let ps = g.P.Keys.keys in
    let qs = g.P.Keys.rest in
    let ds = (cell_view c.desk.inside.pass).owns in
    let us = (cell_view c.args.one.now).owns ++ (cell_view c.args.other.now).owns in
    ⊎_elim
    (λ (x : Has k ps). has_left k us ds (c.requires.within k (has_left k ps qs x)))
    (λ (y : Has k (qs ++ ds)). ⊎_elim (λ (x : Has k qs). has_left k us ds (c.requires.within k (has_right k ps qs x))) (λ (z : Has k ds). has_right k us ds z) (has_either k qs ds y))
    (has_either k ps (qs ++ ds) has)

-- The desk's key is none of the two sets.
module _ (one other keys own : List Key) (n : ℕ) (records : AreRecords one) (no_desks : AreNoDesks other) (within : (key : Key) → Has key keys → Has key (one ++ other)) (is : own ≡ desk_key n ∷ []) where
  apart-desk : (key : Key) → Has key keys → Has key own → ⊥
  apart-desk key has desk =
      let no_desk : key.0 ≢ 1 = ⊎_elim (λ (x : Has key one). λ (is_desk : key.0 ≡ 1). let record_key = records key x in absurd (omega (arith, record_key, is_desk))) (λ (y : Has key other). no_desks key y) (has_either key one other (within key has)) in
      ⊎_elim (λ (e : desk_key n ≡ key). no_desk (sym (ap (λ (p : Key). p.0) e))) (λ (b : ⊥). b) (subst (Has key) is desk)

pub deal-pass-requires-clause-apart : goal.deal-pass-requires-clause-apart
deal-pass-requires-clause-apart g c = λ k x y.
    let qs = g.P.Keys.rest in
    let ds = (cell_view c.desk.inside.pass).owns in
    ⊎_elim (λ (a : Has k qs). c.requires.apart k x a)
    (λ (b : Has k ds). apart-desk (cell_view c.args.one.now).owns (cell_view c.args.other.now).owns (g.P.Keys.keys ++ g.P.Keys.rest) (cell_view c.desk.inside.pass).owns c.desk.inside.number c.requires.one.1 c.requires.other.1 c.requires.within (ap (λ (v : View). v.owns) c.desk.invariant.holds) k (has_left k g.P.Keys.keys qs x) b)
    (has_either k qs ds y)

pub deal-pass-requires-clause-apart_desk : goal.deal-pass-requires-clause-apart_desk
deal-pass-requires-clause-apart_desk g c = λ k x y.
    apart-desk (cell_view c.args.one.now).owns (cell_view c.args.other.now).owns (g.P.Keys.keys ++ g.P.Keys.rest) (cell_view c.desk.inside.pass).owns c.desk.inside.number c.requires.one.1 c.requires.other.1 c.requires.within (ap (λ (v : View). v.owns) c.desk.invariant.holds) k (has_right k g.P.Keys.keys g.P.Keys.rest x) y

pub new-requires : goal.new-requires
new-requires g c =
    let e = c.deal-pass.ensures in
    record { ends = receipt-then (two-sets c.self.invariant c.desk.invariant c.desk.view_is c.args.made c.requires.stored c.requires.may c.deal-pass.ensures.goes_on) c.self.invariant _ _ _ (c.len-index.ensures.count ∙ sym (ap (λ (j : JournalOf Note). length j.filled) c.self.view_is)) e.receipt.0 e.receipt.2 }

pub invariant_of-self : goal.invariant_of-self
invariant_of-self g c =
    let e = c.deal-pass.ensures in
    kept-then (two-sets c.self.invariant c.desk.invariant c.desk.view_is c.args.made c.requires.stored c.requires.may c.deal-pass.ensures.goes_on) c.self.invariant _ _ _
    (λ has. e.born _ (subst (Has (desk_key c.desk.inside.number)) (sym (ap (λ (x : View). x.owns) c.desk.invariant.holds)) has))
    e.keeper.0 e.keeper.1 (ap (λ (p : PlacesOf JournalEntry). p.filled) c.fill.ensures) (sym c.is_request-is_request.ensures.one) c.add-tickets.ensures.tickets c.record_event-share.ensures.book _ c.count_dropped.ensures

pub invariant_of-desk : goal.invariant_of-desk
invariant_of-desk g c = desk-then (two-sets c.self.invariant c.desk.invariant c.desk.view_is c.args.made c.requires.stored c.requires.may c.deal-pass.ensures.goes_on) c.desk.invariant _ _ c.deal-pass.ensures.desk.0 c.deal-pass.ensures.desk.1

pub returns-clause-call : goal.returns-clause-call
returns-clause-call g c = call-then (two-sets c.self.invariant c.desk.invariant c.desk.view_is c.args.made c.requires.stored c.requires.may c.deal-pass.ensures.goes_on) _ _ c.desk.view_is c.deal-pass.ensures.desk.1

pub returns-clause-added : goal.returns-clause-added
returns-clause-added g c =
    let i = c.self.invariant in
    let e = c.deal-pass.ensures in
    let ends = ap (λ (v : View). v.seen) e.keeper.1 ∙ ends-so (two-sets c.self.invariant c.desk.invariant c.desk.view_is c.args.made c.requires.stored c.requires.may c.deal-pass.ensures.goes_on) in
    subst (λ (l : List Note). AddedByBoth g.K.RecordKind.rules g.B.JournalName.base (cell_view c.args.one.now).seen (cell_view c.args.one.now).owns (cell_view c.args.other.now).seen (cell_view c.args.other.now).owns g.S.EntryName.entry l (cell_view c.deal-pass.new.master).seen) (ap (λ (j : JournalOf Note). j.filled) c.self.view_is)
    (record { desk = c.desk.inside.number; call = c.desk.inside.next; own = (cell_view c.desk.inside.pass).owns; sound = i.sound; goes_on = e.goes_on.0; also_goes_on = e.goes_on.1; legal = i.account.legal; ends = ends })

pub returns-clause-tickets : goal.returns-clause-tickets
returns-clause-tickets g c few =
    c.new.ensures.tickets
    ∙ begun-so (two-sets c.self.invariant c.desk.invariant c.desk.view_is c.args.made c.requires.stored c.requires.may c.deal-pass.ensures.goes_on) c.self.invariant _ _ (sym c.is_request-is_request.ensures.one)
    c.add-tickets.ensures.begun _ (ap (λ (v : View). v.seen) c.deal-pass.ensures.keeper.1) few

pub record_event-share-requires-clause-adds : goal.record_event-share-requires-clause-adds
record_event-share-requires-clause-adds g c =
    adds g.K.RecordKind.rules _ _ c.args.counts.share c.args.counts.before c.args.counts.after (two-sets c.self.invariant c.desk.invariant c.desk.view_is c.args.made c.requires.stored c.requires.may c.deal-pass.ensures.goes_on).counts

pub overflow_add-desk : goal.overflow_add-desk
overflow_add-desk g c =
    let longer = no_longer (cell_view c.desk.inside.pass).seen (cell_view c.self.inside.pass).seen (cell_view c.desk.inside.pass).owns c.deal-pass.ensures.goes_on.2 in
    let all = ap (λ (j : JournalOf Note). length j.filled) c.self.view_is in
    omega (arith, longer, all, c.desk.invariant.count, c.len-index.ensures.count, c.len-index.ensures.few)
