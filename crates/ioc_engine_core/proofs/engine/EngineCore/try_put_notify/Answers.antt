use Rattle.std.proofs.lemmas.Result.{err_from_is_err_and}
use Rattle.std.proofs.Common.{ℕ, sym, subst, inl, inr, ⊎_elim, Contains}
use Rattle.ioc_events.specs.declared.event.Event.TheVariants.{Put}
use Rattle.ioc_journaled_set.specs.Holding.{HeldView, numbers_of, IsSoundlyHeld, Begins}
use Rattle.ioc_set.specs.SetStore.{world_of}
use Rattle.ioc_engine_core.proofs.Refusals.{refused_by_set}
use Rattle.ioc_engine_core.proofs.engine.EngineCore.try_put_notify.Goals as goal

pub returns-clause-begun : goal.returns-clause-begun
returns-clause-begun g c =
    let k = g.K.RecordKind.rules in (
      c.now-moment.result,
      c.now-moment.ensures,
      record {
        held = c.deref_mut.result.now;
        held_then = c.put_notify-told.new.self;
        here = subst (λ (s : HeldView g.row.K.Denot g.row.D.Denot). Contains (numbers_of s) c.args.put.now.number) (sym c.deref_mut.ensures.value) c.in_ok-held.ensures.here;
        before = subst (λ (s : HeldView g.row.K.Denot g.row.D.Denot). IsSoundlyHeld k g.B.JournalName.base s) (sym c.deref_mut.ensures.value) c.in_ok-held.ensures.sound;
        begins = subst (λ (limit : ℕ). Begins k g.D.Device.gives g.B.JournalName.base limit c.deref_mut.result.now c.args.desk.now.account c.now-moment.result c.args.put.now.number c.args.put.now.field c.args.put.now.given c.in_ok-reply.field-0.reply c.put_notify-told.new.self c.put_notify-told.new.desk (world_of c.put_notify-told.new.buffers.store))
            c.access-access.ensures c.in_ok-reply.ensures.begins;
        after = subst (λ (s : HeldView g.row.K.Denot g.row.D.Denot). IsSoundlyHeld k g.B.JournalName.base s) c.deref.ensures c.is_sound.ensures;
      },
    )

pub returns-in_err-reply-clause-refused : goal.returns-in_err-reply-clause-refused
returns-in_err-reply-clause-refused g c =
    let k = g.K.RecordKind.rules in
    let p = err_from_is_err_and c.from_residual-in_err-reply.result c.from_residual-in_err-reply.ensures.1 in
    rw (p.1, p.2) (⊎_elim (λ full. inl full) (λ none. inr (refused_by_set k g.B.JournalName.base c.deref_mut.result.now c.args.self.now.count c.args.put.now.number (Put c.args.put.now.number c.args.put.now.field c.args.put.now.given) _
    (subst (λ (s : HeldView g.row.K.Denot g.row.D.Denot). Contains (numbers_of s) c.args.put.now.number) (sym c.deref_mut.ensures.value) c.in_ok-held.ensures.here)
    (subst (λ (s : HeldView g.row.K.Denot g.row.D.Denot). IsSoundlyHeld k g.B.JournalName.base s) (sym c.deref_mut.ensures.value) c.in_ok-held.ensures.sound)
    none)) c.in_err-reply.ensures.refused)
