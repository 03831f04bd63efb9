use Rattle.std.proofs.Common.{◌≡◌, List, refl, sym, ap, ◌∙◌, subst, arith}
use Rattle.crossbeam_utils.specs.Seq.{cell_view}
use Rattle.ioc_journal.specs.declared.cell.View.{View}
use Rattle.ioc_journal.specs.Line.{keeper}
use Rattle.ioc_ledger.specs.Requests.{capped}
use Rattle.ioc_journal.specs.Account.{calls, Below, IsAccount}
use Rattle.ioc_journal.specs.declared.entry.Note.{Note}
use Rattle.ioc_journal.specs.Counting.{AreTicketsOf, counts_of, dropped_in}
use Rattle.ioc_journal.proofs.TicketsThen.{none-yet}
use Rattle.ioc_journal.proofs.journal.Journal.without_calls.Goals as goal

pub invariant_of-result : goal.invariant_of-result
invariant_of-result g c =
    let is = c.requires.pass in
    let seen = ap (λ (v : View). v.seen) is in
    record {
      same = c.requires.table;
      keeps = is ∙ ap (λ l. keeper l (cell_view c.args.master).born) (sym seen);
      items_are = c.requires.none.0 ∙ ap calls (sym seen);
      within = omega arith;
      few = omega arith;
      leads_from = refl;
      sound = c.requires.sound;
      account = subst (IsAccount g.K.RecordKind.rules g.B.JournalName.base) (sym seen) (record { legal = tt; rising = tt; keyed = tt; numbers = λ i j d lt within. absurd (let none : ⊥ = omega (arith, within) in none); puts_keyed = tt });
      given = λ key has kind. absurd (c.requires.given key has kind);
      new_desk = λ m le. subst (λ l. Below m 0 (calls l)) (sym seen) tt;
      tickets_are = subst (λ (l : List Note). AreTicketsOf g.K.RecordKind.rules g.B.JournalName.base l c.args.tickets) (sym seen) (none-yet g.K.RecordKind.rules g.B.JournalName.base c.args.tickets c.requires.tickets);
      drops = subst (λ (l : List Note). 0 ≡ capped (dropped_in g.K.RecordKind.rules g.B.JournalName.base l)) (sym seen) refl;
      counted = subst (λ (l : List Note). c.args.counted ≡ counts_of g.K.RecordKind.rules g.B.JournalName.base l) (sym seen) c.requires.none.1;
    }
