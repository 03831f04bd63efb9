use Rattle.std.proofs.Common.{sym, ◌∙◌}
use Rattle.ioc_process.specs.Keeping.{has_run_same}
use Rattle.ioc_events.specs.declared.event.Event.TheVariants.{Process}
use Rattle.ioc_events.proofs.Stepping.{makes-refused, step-process}
use Rattle.ioc_events.proofs.alone.request.Goals as goal

pub returns-then-not-has-clause-done : goal.returns-then-not-has-clause-done
returns-then-not-has-clause-done g c = λ answers begins.
    makes-refused g.S.Record.RecordKind.rules answers _ (Process c.args.number) _ (sym c.has.ensures ∙ c.if-not-has.true)

pub returns-clause-done : goal.returns-clause-done
returns-clause-done g c = λ answers begins.
    rw (step-process g.S.Record.RecordKind.rules answers (g.S.Store.world c.args.store.now) c.args.number (sym c.has.ensures ∙ c.if-not-has.false)) (c.request_present-outcome.ensures.told answers begins)

pub returns-then-not-has-clause-run : goal.returns-then-not-has-clause-run
returns-then-not-has-clause-run g c = has_run_same g.S.Record.RecordKind.rules _ c.requires.empty
