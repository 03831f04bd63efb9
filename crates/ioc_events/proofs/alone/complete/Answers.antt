use Rattle.std.proofs.Common.{refl, ap, sym, ◌∙◌}
use Rattle.ioc_events.specs.Step.{awaits}
use Rattle.ioc_events.specs.declared.event.Event.TheVariants.{Complete}
use Rattle.ioc_process.specs.Keeping.{has_run_same}
use Rattle.ioc_events.proofs.Stepping.{makes-refused, makes-completion, step-stale, step-complete}
use Rattle.ioc_events.proofs.alone.complete.Goals as goal

pub returns-then-not-has-clause-done : goal.returns-then-not-has-clause-done
returns-then-not-has-clause-done g c = λ answers begins.
    makes-refused g.S.Record.RecordKind.rules answers _ (Complete c.args.number c.args.wait c.args.finished) _ (sym c.has.ensures ∙ c.if-not-has.true)

pub returns-then-not-has-clause-run : goal.returns-then-not-has-clause-run
returns-then-not-has-clause-run g c = has_run_same g.S.Record.RecordKind.rules _ c.requires.empty

pub returns-then-not-awaits-clause-done : goal.returns-then-not-awaits-clause-done
returns-then-not-awaits-clause-done g c = λ answers begins.
    let k = g.S.Record.RecordKind.rules in
    rw (step-stale k answers (g.S.Store.world c.args.store.now) c.args.number c.args.wait c.args.finished (sym c.has.ensures ∙ c.if-not-has.false)
    (ap (λ it. awaits it c.args.wait) (ap k.common (sym c.record.ensures) ∙ sym c.common.ensures) ∙ sym c.awaits.ensures ∙ c.if-not-awaits.true)) (record { world = refl; reply = refl; tally = refl })

pub returns-then-not-awaits-clause-run : goal.returns-then-not-awaits-clause-run
returns-then-not-awaits-clause-run g c = has_run_same g.S.Record.RecordKind.rules _ c.requires.empty

pub returns-clause-done : goal.returns-clause-done
returns-clause-done g c = λ answers begins.
    let k = g.S.Record.RecordKind.rules in
    let w = g.S.Store.world c.args.store.now in
    rw (step-complete k answers w c.args.number c.args.wait c.args.finished (sym c.has.ensures ∙ c.if-not-has.false)
    (ap (λ it. awaits it c.args.wait) (ap k.common (sym c.record.ensures) ∙ sym c.common.ensures) ∙ sym c.awaits.ensures ∙ c.if-not-awaits.false))
    (makes-completion k answers w _ c.args.number c.args.finished _ _ (c.complete_record.ensures.done answers begins))
