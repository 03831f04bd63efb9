use Rattle.std.proofs.lemmas.Result.{err_from_is_err_and}
use Rattle.std.proofs.Common.{ℕ, sym, subst, Contains}
use Rattle.ioc_journaled_set.specs.Holding.{HeldView, numbers_of, IsSoundlyHeld, Serves}
use Rattle.ioc_set.specs.SetStore.{world_of}
use Rattle.ioc_engine_core.specs.Served.{target_of}
use Rattle.ioc_engine_core.proofs.Refusals.{refused_by_set}
use Rattle.ioc_engine_core.proofs.engine.EngineCore.try_serve.Goals as goal

pub returns-clause-served : goal.returns-clause-served
returns-clause-served g c =
    let k = g.K.RecordKind.rules in (
      c.now-moment.result,
      c.now-moment.ensures,
      record {
        held = c.deref_mut.result.now;
        held_then = c.serve.new.self;
        here = subst (λ (n : ℕ). Contains (numbers_of c.deref_mut.result.now) n) c.target_of-number.ensures.target
            (subst (λ (s : HeldView g.row.K.Denot g.row.D.Denot). Contains (numbers_of s) c.target_of-number.result) (sym c.deref_mut.ensures.value) c.in_ok-held.ensures.here);
        before = subst (λ (s : HeldView g.row.K.Denot g.row.D.Denot). IsSoundlyHeld k g.B.JournalName.base s) (sym c.deref_mut.ensures.value) c.in_ok-held.ensures.sound;
        serves = subst (λ (limit : ℕ). Serves k g.D.Device.gives g.B.JournalName.base limit c.deref_mut.result.now c.args.desk.now.account c.now-moment.result c.args.event.now c.in_ok-reply.field-0.reply c.serve.new.self c.serve.new.desk (world_of c.serve.new.buffers.store))
            c.access-access.ensures c.in_ok-reply.ensures.serves;
        after = subst (λ (s : HeldView g.row.K.Denot g.row.D.Denot). IsSoundlyHeld k g.B.JournalName.base s) c.deref-2.ensures c.is_sound.ensures;
      },
    )

pub returns-in_err-reply-clause-refused : goal.returns-in_err-reply-clause-refused
returns-in_err-reply-clause-refused g c =
    let k = g.K.RecordKind.rules in
    let p = err_from_is_err_and c.from_residual-in_err-reply.result c.from_residual-in_err-reply.ensures.1 in
    rw (p.1, p.2) (refused_by_set k g.B.JournalName.base c.deref_mut.result.now c.args.self.now.count (target_of c.args.event.now) c.args.event.now _
    (subst (λ (n : ℕ). Contains (numbers_of c.deref_mut.result.now) n) c.target_of-number.ensures.target
    (subst (λ (s : HeldView g.row.K.Denot g.row.D.Denot). Contains (numbers_of s) c.target_of-number.result) (sym c.deref_mut.ensures.value) c.in_ok-held.ensures.here))
    (subst (λ (s : HeldView g.row.K.Denot g.row.D.Denot). IsSoundlyHeld k g.B.JournalName.base s) (sym c.deref_mut.ensures.value) c.in_ok-held.ensures.sound)
    c.in_err-reply.ensures.refused)
