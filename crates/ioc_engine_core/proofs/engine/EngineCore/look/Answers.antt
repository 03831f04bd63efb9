use Rattle.std.proofs.lemmas.Result.{err_from_is_err_and}
use Rattle.std.proofs.Common.{◌≡◌, List, sym, ap, ◌∙◌, subst, inl, inr, ⊎_elim}
use Rattle.std.specs.Prelude.{Contains}
use Rattle.std.specs.FinMap.{keys}
use Rattle.ioc_journal.specs.declared.entry.Note.{Note}
use Rattle.ioc_journal.specs.Account.{IsAccount}
use Rattle.ioc_journal.specs.Line.{Begins}
use Rattle.ioc_set.specs.SetState.{SetState}
use Rattle.ioc_journaled_set.specs.Holding.{HeldView, IsSoundlyHeld, numbers_of}
use Rattle.ioc_engine_core.proofs.engine.EngineCore.look.Goals as goal

pub returns-clause-looked : goal.returns-clause-looked
returns-clause-looked g c =
    let k = g.K.RecordKind.rules in
    let base = g.B.JournalName.base in
    let held = c.deref-2.result.now in
    let learnt = c.learn.ensures in
    let is : held ≡ c.learn.new.self = c.deref-2.ensures in
    let seen : c.learn.new.desk.seen ≡ held.seen = sym learnt.seen ∙ ap (λ (s : HeldView g.row.K.Denot g.row.D.Denot). s.seen) (sym is) in
    let first = subst (λ (s : HeldView g.row.K.Denot g.row.D.Denot). Contains (numbers_of s) c.args.number) (sym c.deref_mut.ensures.value) c.in_ok-held.ensures.here in
    let then = subst (λ (h : SetState g.row.K.Denot g.row.D.Denot). Contains (keys h.records) c.args.number) (sym learnt.set) first in
    record {
      held = held;
      here = subst (λ (s : HeldView g.row.K.Denot g.row.D.Denot). Contains (numbers_of s) c.args.number) (sym is) then;
      sound = subst (λ (s : HeldView g.row.K.Denot g.row.D.Denot). IsSoundlyHeld k base s) (c.deref.ensures ∙ sym is) c.is_sound.ensures;
      legal = subst (λ (l : List Note). IsAccount k base l) seen learnt.account;
      no_older = subst (λ (l : List Note). Begins c.args.desk.now.account.seen l) seen learnt.desk.begins;
      last = sym seen;
      seen = c.in_ok-add_seen.ensures.shown;
    }

pub returns-in_err-add_seen-clause-refused : goal.returns-in_err-add_seen-clause-refused
returns-in_err-add_seen-clause-refused g c =
    let k = g.K.RecordKind.rules in
    let base = g.B.JournalName.base in
    let held = c.deref-2.result.now in
    let is : held ≡ c.learn.new.self = c.deref-2.ensures in
    let first = subst (λ (s : HeldView g.row.K.Denot g.row.D.Denot). Contains (numbers_of s) c.args.number) (sym c.deref_mut.ensures.value) c.in_ok-held.ensures.here in
    let then = subst (λ (h : SetState g.row.K.Denot g.row.D.Denot). Contains (keys h.records) c.args.number) (sym c.learn.ensures.set) first in
    let p = err_from_is_err_and c.from_residual-in_err-add_seen.result c.from_residual-in_err-add_seen.ensures.1 in
    rw (p.1, p.2) (⊎_elim (λ memory. inr (inl memory)) (λ none. inr (inr (inr (record {
      held = held;
      here = subst (λ (s : HeldView g.row.K.Denot g.row.D.Denot). Contains (numbers_of s) c.args.number) (sym is) then;
      sound = subst (λ (s : HeldView g.row.K.Denot g.row.D.Denot). IsSoundlyHeld k base s) (c.deref.ensures ∙ sym is) c.is_sound.ensures;
      none = none;
    })))) c.in_err-add_seen.ensures.refused)

pub take_mark-requires-clause-there : goal.take_mark-requires-clause-there
take_mark-requires-clause-there g c =
    let first = subst (λ (s : HeldView g.row.K.Denot g.row.D.Denot). Contains (numbers_of s) c.args.number) (sym c.deref_mut.ensures.value) c.in_ok-held.ensures.here in
    let then = subst (λ (h : SetState g.row.K.Denot g.row.D.Denot). Contains (keys h.records) c.args.number) (sym c.learn.ensures.set) first in
    subst (λ (s : HeldView g.row.K.Denot g.row.D.Denot). Contains (numbers_of s) c.args.number) (sym c.deref_mut-2.ensures.value) then
