use Rattle.std.proofs.Common.{◌≡◌, ◌≤◌, ℕ, List, length, sym, ap, ap₂, ◌∙◌, subst, arith}
use Rattle.std.proofs.lemmas.List.{take_all, drop_all}
use Rattle.crossbeam_utils.specs.Seq.{cell_view}
use Rattle.ioc_journal.specs.declared.entry.JournalEntry.{JournalEntry}
use Rattle.ioc_journal.specs.declared.entry.Note.{Note}
use Rattle.ioc_journal.specs.Account.{calls}
use Rattle.ioc_journal.specs.Base.{IsBaseOf}
use Rattle.ioc_journal.specs.Legal.{map_of}
use Rattle.ioc_journal.specs.Places.{JournalOf, PlacesOf, journal_of}
use Rattle.ioc_journal.proofs.Calls.{length-calls}
use Rattle.ioc_journal.proofs.Written.{as_many}
use Rattle.ioc_journal.proofs.journal.Journal.drop_entries.Goals as goal

pub invariant_of-self : goal.invariant_of-self
invariant_of-self g c =
    let i = c.self.invariant in
    let k = g.K.RecordKind.rules in
    let base = g.B.JournalName.base in
    let seen = (cell_view c.self.inside.pass).seen in
    let all = c.len-calls.result in
    let is : all ≡ length seen = c.len-calls.ensures.count ∙ sym (ap (λ (j : JournalOf Note). length j.filled) c.self.view_is) in
    let few = c.if-calls-gt-MOST_DROPPED.false in
    let long : length seen ≤ all = omega arith in
    let calls_long : length (calls seen) ≤ all = omega (arith, length-calls seen) in
    record {
      same = i.same;
      keeps = i.keeps;
      items_are = ap (λ (p : PlacesOf JournalEntry). p.filled) c.clear-free.ensures.cleared ∙ sym (drop_all all (calls seen) calls_long);
      within = omega arith;
      few = omega (arith, few);
      leads_from =
          subst (λ (l : List Note). IsBaseOf (map_of k base l) c.args.base.records.items c.args.base.waiting.items)
          (sym (ap (λ (j : JournalOf Note). j.filled) c.self.view_is) ∙ sym (take_all all seen long)) c.requires.base;
      sound = i.sound;
      account = i.account;
      given = i.given;
      new_desk = i.new_desk;
      tickets_are = i.tickets_are;
      counted = i.counted;
      drops = i.drops;
    }

pub returns-clause-dropped : goal.returns-clause-dropped
returns-clause-dropped g c =
    let seen = (cell_view c.self.inside.pass).seen in
    let long : c.len-calls.result ≡ length seen = c.len-calls.ensures.count ∙ sym (ap (λ (j : JournalOf Note). length j.filled) c.self.view_is) in
    ap₂ (λ (p : PlacesOf JournalEntry) (n : ℕ). journal_of seen n p.given p.limit c.self.inside.desks c.self.inside.tickets) c.clear-free.ensures.cleared long
    ∙ ap (λ (j : JournalOf Note). journal_of j.filled (length j.filled) j.given j.limit j.desks j.tickets) c.self.view_is

pub returns-clause-freed : goal.returns-clause-freed
returns-clause-freed g c =
    let i = c.self.invariant in
    let many = as_many c.self.inside.entries.filled c.self.inside.dropped (cell_view c.self.inside.pass).seen i.items_are i.within in
    let freed = c.clear-free.ensures.freed in
    let shown = ap (λ (j : JournalOf Note). length j.filled) c.self.view_is in
    let before = ap (λ (j : JournalOf Note). j.dropped) c.self.view_is in
    omega (arith, many, freed, shown, before)
