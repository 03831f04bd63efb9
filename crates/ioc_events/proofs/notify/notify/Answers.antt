use Rattle.std.proofs.Common.{refl, sym, ap, ◌∙◌}
use Rattle.ioc_events.specs.Starting.{value_to_put}
use Rattle.ioc_events.specs.declared.event.Event.TheVariants.{Notify}
use Rattle.ioc_process.specs.Keeping.{has_run_same}
use Rattle.ioc_events.proofs.Stepping.{makes-refused, step-notify, step-no_place, step-let_in}
use Rattle.ioc_events.proofs.notify.notify.Goals as goal

pub returns-then-not-has-clause-done : goal.returns-then-not-has-clause-done
returns-then-not-has-clause-done g c = λ answers begins.
    makes-refused g.S.Record.RecordKind.rules answers _ (Notify c.args.target c.args.number c.args.field c.args.given) _ (sym c.has.ensures ∙ c.if-not-has.true)

pub returns-then-not-has-clause-run : goal.returns-then-not-has-clause-run
returns-then-not-has-clause-run g c = has_run_same g.S.Record.RecordKind.rules _ c.requires.empty

pub returns-in-Err-clause-done : goal.returns-in-Err-clause-done
returns-in-Err-clause-done g c = λ answers begins.
    let k = g.S.Record.RecordKind.rules in
    rw (step-notify k answers (g.S.Store.world c.args.store.now) c.args.target c.args.number c.args.field c.args.given _ (sym c.has.ensures ∙ c.if-not-has.false)
    (ap (λ r. value_to_put k r c.args.field c.args.given) (sym c.record.ensures) ∙ sym c.value_to_put.ensures ∙ c.in-Err.is)) (record { world = refl; reply = refl; tally = refl })

pub returns-in-Err-clause-run : goal.returns-in-Err-clause-run
returns-in-Err-clause-run g c = has_run_same g.S.Record.RecordKind.rules _ c.requires.empty

pub returns-then-not-has_place-clause-done : goal.returns-then-not-has_place-clause-done
returns-then-not-has_place-clause-done g c = λ answers begins.
    let k = g.S.Record.RecordKind.rules in
    rw (step-no_place k answers (g.S.Store.world c.args.store.now) c.args.target c.args.number c.args.field c.args.given _ (sym c.has.ensures ∙ c.if-not-has.false)
    (ap (λ r. value_to_put k r c.args.field c.args.given) (sym c.record.ensures) ∙ sym c.value_to_put.ensures ∙ c.in-Ok.is) (sym c.has_place.ensures ∙ c.if-not-has_place.true)) (record { world = refl; reply = refl; tally = refl })

pub returns-then-not-has_place-clause-run : goal.returns-then-not-has_place-clause-run
returns-then-not-has_place-clause-run g c = has_run_same g.S.Record.RecordKind.rules _ c.requires.empty

pub returns-clause-done : goal.returns-clause-done
returns-clause-done g c = λ answers begins.
    let k = g.S.Record.RecordKind.rules in
    rw (step-let_in k answers (g.S.Store.world c.args.store.now) c.args.target c.args.number c.args.field c.args.given _ (sym c.has.ensures ∙ c.if-not-has.false)
    (ap (λ r. value_to_put k r c.args.field c.args.given) (sym c.record.ensures) ∙ sym c.value_to_put.ensures ∙ c.in-Ok.is) (sym c.has_place.ensures ∙ c.if-not-has_place.false)) (c.begin_or_queue.ensures.done answers begins)
