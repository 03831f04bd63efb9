use Rattle.std.proofs.Common.{true, false, sym, ◌∙◌}
use Rattle.ioc_process.specs.Keeping.{keeps_all}
use Rattle.ioc_events.proofs.QuietEvents.{cancelled-keeps}
use Rattle.ioc_events.proofs.Stepping.{step-cancel}
use Rattle.ioc_events.proofs.notify.cancel.Goals as goal

pub returns-then-not-is_live-clause-done : goal.returns-then-not-is_live-clause-done
returns-then-not-is_live-clause-done g c = λ answers. step-cancel g.S.Record.RecordKind.rules answers (g.S.Store.world c.args.store.now) c.args.number false (sym c.is_live.ensures ∙ c.if-not-is_live.true)

pub returns-then-not-is_live-clause-keeps : goal.returns-then-not-is_live-clause-keeps
returns-then-not-is_live-clause-keeps g c = keeps_all g.S.Record.RecordKind.rules _

pub returns-clause-done : goal.returns-clause-done
returns-clause-done g c = λ answers.
    rw c.cancel.ensures.world (step-cancel g.S.Record.RecordKind.rules answers (g.S.Store.world c.args.store.now) c.args.number true (sym c.is_live.ensures ∙ c.if-not-is_live.false))

pub returns-clause-keeps : goal.returns-clause-keeps
returns-clause-keeps g c = rw c.cancel.ensures.world (cancelled-keeps g.S.Record.RecordKind.rules g.met.S.Record.RecordKind.lawful c.args.number (g.S.Store.world c.args.store.now))
