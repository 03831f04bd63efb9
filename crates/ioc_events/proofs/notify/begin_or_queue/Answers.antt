use Rattle.std.proofs.Common.{◌∙◌}
use Rattle.ioc_process.specs.Keeping.{keeps_on, has_run_kept, has_run_after, can_process_on}
use Rattle.ioc_events.proofs.QuietEvents.{admitted-keeps, queued-keeps}
use Rattle.ioc_events.proofs.StartCode.{admitted-waiting}
use Rattle.ioc_events.proofs.notify.begin_or_queue.Goals as goal

pub queue-requires : goal.queue-requires
queue-requires g c = rw (c.admit.ensures.world, admitted-waiting c.args.waiting.now.number (g.S.Store.world c.args.store.now)) c.requires.waits

pub start-requires : goal.start-requires
start-requires g c =
    let k = g.S.Record.RecordKind.rules in
    let lawful = g.met.S.Record.RecordKind.lawful in
    rw c.admit.ensures.world (can_process_on k lawful (admitted-keeps k lawful c.args.waiting.now.number (g.S.Store.world c.args.store.now)) c.requires.begins)

pub returns-then-waits-clause-run : goal.returns-then-waits-clause-run
returns-then-waits-clause-run g c =
    let k = g.S.Record.RecordKind.rules in
    let lawful = g.met.S.Record.RecordKind.lawful in
    rw (c.queue.ensures.world, c.admit.ensures.world)
    (has_run_kept k (keeps_on k (admitted-keeps k lawful c.args.waiting.now.number (g.S.Store.world c.args.store.now)) (queued-keeps k lawful c.args.waiting.now _)) (c.queue.ensures.given ∙ c.admit.ensures.given) c.requires.begins.run.empty)

pub returns-else-waits-clause-run : goal.returns-else-waits-clause-run
returns-else-waits-clause-run g c =
    let k = g.S.Record.RecordKind.rules in
    let lawful = g.met.S.Record.RecordKind.lawful in
    has_run_after k (admitted-keeps k lawful c.args.waiting.now.number (g.S.Store.world c.args.store.now)) (rw (c.admit.ensures.world, c.admit.ensures.given) at c.start.ensures.run)
