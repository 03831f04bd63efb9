use Rattle.std.proofs.Common.{sym, subst, Contains}
use Rattle.ioc_journaled_set.specs.Holding.{HeldView, numbers_of, IsSoundlyHeld}
use Rattle.ioc_engine_core.proofs.Refusals.{ok_then, err_then, unread_by_set}
use Rattle.ioc_engine_core.proofs.engine.EngineCore.try_get.Goals as goal

pub returns-clause-told : goal.returns-clause-told
returns-clause-told g c =
    let k = g.K.RecordKind.rules in
    ok_then _ _ c.get-told.result
    (λ x tells. (
      c.now-moment.result,
      c.now-moment.ensures,
      record {
        held = c.deref_mut.result.now;
        held_then = c.get-told.new.self;
        here = subst (λ (s : HeldView g.row.K.Denot g.row.D.Denot). Contains (numbers_of s) c.args.number) (sym c.deref_mut.ensures.value) c.in_ok-held.ensures.here;
        before = subst (λ (s : HeldView g.row.K.Denot g.row.D.Denot). IsSoundlyHeld k g.B.JournalName.base s) (sym c.deref_mut.ensures.value) c.in_ok-held.ensures.sound;
        tells = tells;
        after = subst (λ (s : HeldView g.row.K.Denot g.row.D.Denot). IsSoundlyHeld k g.B.JournalName.base s) c.deref.ensures c.is_sound.ensures;
      },
    ))
    c.get-told.ensures.tells

pub returns-clause-refused : goal.returns-clause-refused
returns-clause-refused g c =
    let k = g.K.RecordKind.rules in
    err_then _ _ c.get-told.result
    (λ e why. unread_by_set k g.B.JournalName.base c.deref_mut.result.now c.args.self.now.count c.args.number c.args.field e
    (subst (λ (s : HeldView g.row.K.Denot g.row.D.Denot). Contains (numbers_of s) c.args.number) (sym c.deref_mut.ensures.value) c.in_ok-held.ensures.here)
    (subst (λ (s : HeldView g.row.K.Denot g.row.D.Denot). IsSoundlyHeld k g.B.JournalName.base s) (sym c.deref_mut.ensures.value) c.in_ok-held.ensures.sound) why)
    c.get-told.ensures.refused
