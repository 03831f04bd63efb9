use Rattle.std.proofs.Common.{◌≡◌, ℕ, List, sym, ap, ◌∙◌, subst}
use Rattle.std.specs.Prelude.{Contains}
use Rattle.ioc_journal.specs.declared.entry.Note.{Note}
use Rattle.ioc_journal.specs.Account.{IsAccount}
use Rattle.ioc_journal.specs.Line.{Begins}
use Rattle.ioc_journaled_set.specs.Holding.{HeldView, IsSoundlyHeld, numbers_of}
use Rattle.ioc_engine_core.proofs.SeenMore.{no_more}
use Rattle.ioc_engine_core.proofs.engine.EngineCore.part_of.Goals as goal

pub learn-requires : goal.learn-requires
learn-requires g c = record {
  some = (c.args.number, subst (λ (s : HeldView g.row.K.Denot g.row.D.Denot). Contains (numbers_of s) c.args.number) (sym c.deref_mut.ensures.value) c.in_ok-held.ensures.here);
}

pub returns-clause-seen : goal.returns-clause-seen
returns-clause-seen g c =
    let k = g.K.RecordKind.rules in
    let base = g.B.JournalName.base in
    let held = c.deref-2.result.now in
    let learnt = c.learn.ensures in
    let is : held ≡ c.learn.new.self = c.deref-2.ensures in
    let seen : c.learn.new.desk.seen ≡ held.seen = sym learnt.seen ∙ ap (λ (s : HeldView g.row.K.Denot g.row.D.Denot). s.seen) (sym is) in
    record {
      held = held;
      sound = subst (λ (s : HeldView g.row.K.Denot g.row.D.Denot). IsSoundlyHeld k base s) (c.deref.ensures ∙ sym is) c.is_sound.ensures;
      all = c.in_ok-numbers.ensures;
      legal = subst (λ (l : List Note). IsAccount k base l) seen learnt.account;
      no_older = subst (λ (l : List Note). Begins c.args.desk.now.account.seen l) seen learnt.desk.begins;
      known = subst (λ (l : List Note). Begins l c.learn.new.desk.seen) seen (no_more c.learn.new.desk).begins;
    }

pub returns-in_err-held-clause-desk : goal.returns-in_err-held-clause-desk
returns-in_err-held-clause-desk g c = no_more c.args.desk.now.account
