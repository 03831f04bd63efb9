use Rattle.std.proofs.Common.{◌≡◌, length, refl, ap, sym, ◌∙◌}
use Rattle.std.proofs.lemmas.Bool.{eqb-true}
use Rattle.ioc_process.specs.Keeping.{has_run_same}
use Rattle.ioc_events.proofs.StartCode.{none-waits}
use Rattle.ioc_events.proofs.starting.start_all.Goals as goal

pub returns-then-is_empty-clause-started : goal.returns-then-is_empty-clause-started
returns-then-is_empty-clause-started g c = λ answers begins.
    let w = g.S.Store.world c.args.store.now in
    let none : length w.waiting ≡ 0 = ap length (sym c.waiting.ensures) ∙ eqb-true _ _ (sym c.is_empty.ensures ∙ c.if-is_empty.true) in
    rw (none-waits g.S.Record.RecordKind.rules answers w none) (record { world = refl; tally = refl })

pub returns-then-is_empty-clause-run : goal.returns-then-is_empty-clause-run
returns-then-is_empty-clause-run g c = has_run_same g.S.Record.RecordKind.rules _ c.requires.empty
