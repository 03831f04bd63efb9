use Rattle.std.proofs.Common.{◌≡◌, ◌<◌, ◌≤◌, List, [], ◌∷◌, length, drop, refl, sym, ap, ap₂, ◌∙◌, subst, ⊎_elim, arith}
use Rattle.crossbeam_utils.specs.Seq.{cell_view}
use Rattle.ioc_journal.specs.declared.entry.Note.{Note}
use Rattle.ioc_journal.specs.declared.cell.View.{View}
use Rattle.ioc_journal.specs.Key.{Key, Has}
use Rattle.ioc_journal.specs.Line.{keeper, claiming}
use Rattle.ioc_ledger.specs.Requests.{capped}
use Rattle.ioc_journal.specs.Account.{desk_key, calls, calls_by, Below, IsAccount}
use Rattle.ioc_journal.specs.Desks.{LeadsFrom}
use Rattle.ioc_journal.specs.Places.{JournalOf}
use Rattle.ioc_journal.proofs.Calls.{none_below}
use Rattle.ioc_journal.specs.Counting.{AreTicketsOf, counts_of, dropped_in}
use Rattle.ioc_journal.proofs.journal.Journal.open_desk.Goals as goal

pub claim_key-pass-requires-clause-fresh : goal.claim_key-pass-requires-clause-fresh
claim_key-pass-requires-clause-fresh g c = λ has. let lt : c.self.inside.desks < c.self.inside.desks = c.self.invariant.given (1, c.self.inside.desks) has refl in omega arith

pub invariant_of-self : goal.invariant_of-self
invariant_of-self g c =
    let i = c.self.invariant in
    let d = c.self.inside.desks in
    let e = c.claim_key-pass.ensures.kept in
    let is = e.1 ∙ ap (claiming (desk_key d ∷ [])) i.keeps in
    let seen = ap (λ (v : View). v.seen) is in
    let born = ap (λ (v : View). v.born) is in
    record {
      same = e.0 ∙ i.same;
      keeps = is ∙ ap₂ keeper (sym seen) (sym born);
      items_are = i.items_are ∙ ap (λ l. drop c.self.inside.dropped (calls l)) (sym seen);
      within = subst (λ (l : List Note). c.self.inside.dropped ≤ length l) (sym seen) i.within;
      few = i.few;
      leads_from = subst (λ (l : List Note). LeadsFrom g.K.RecordKind.rules g.B.JournalName.base c.self.inside.from c.self.inside.dropped l) (sym seen) i.leads_from;
      sound = i.sound;
      account = subst (IsAccount g.K.RecordKind.rules g.B.JournalName.base) (sym seen) i.account;
      given = λ k has kind.
          ⊎_elim (λ (same : desk_key d ≡ k). let n = ap (λ (p : Key). p.1) same in omega arith)
          (λ (was : Has k (cell_view c.self.inside.pass).born). let lt = i.given k was kind in omega arith) (subst (Has k) born has);
      new_desk = λ m le. subst (λ l. Below m 0 (calls l)) (sym seen) (i.new_desk m (omega arith));
      tickets_are = subst (λ (l : List Note). AreTicketsOf g.K.RecordKind.rules g.B.JournalName.base l c.self.inside.tickets) (sym seen) i.tickets_are;
      drops = subst (λ (l : List Note). c.self.inside.items_dropped ≡ capped (dropped_in g.K.RecordKind.rules g.B.JournalName.base l)) (sym seen) i.drops;
      counted = subst (λ (l : List Note). c.self.inside.counted ≡ counts_of g.K.RecordKind.rules g.B.JournalName.base l) (sym seen) i.counted;
    }

pub returns-clause-desk : goal.returns-clause-desk
returns-clause-desk g c =
    let i = c.self.invariant in
    let d = c.self.inside.desks in
    let seen = ap (λ (v : View). v.seen) c.claim_key-pass.ensures.given.2 in
    (ap (λ (j : JournalOf Note). j.desks) c.self.view_is, refl, seen ∙ ap (λ (j : JournalOf Note). j.filled) c.self.view_is, ap (λ l. calls_by d (calls l)) seen ∙ none_below d (calls (cell_view c.self.inside.pass).seen) (i.new_desk d (omega arith)))
