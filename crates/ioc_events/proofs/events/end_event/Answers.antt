use Rattle.ioc_process.specs.Keeping.{has_run_same}
use Rattle.ioc_events.proofs.events.end_event.Goals.{then-not-refused, else-not-refused}
use Rattle.ioc_events.proofs.events.end_event.Goals as goal

pub returns-clause-run : goal.returns-clause-run
returns-clause-run g c =
    elim c.if-not-refused.branch [
      | then-not-refused w ↦ rw (w.store-is, w.frames-is) w.start_all.ensures.run
      | else-not-refused w ↦ rw (w.store-is, w.frames-is) (has_run_same g.S.Record.RecordKind.rules _ c.requires.empty)
    ]
