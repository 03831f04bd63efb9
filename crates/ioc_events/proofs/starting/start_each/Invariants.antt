use Rattle.std.proofs.Common.{length}
use Rattle.ioc_process.specs.Running.{CanRun, HasRun}
use Rattle.ioc_process.specs.Runs.{ForAnswers}
use Rattle.ioc_events.proofs.StartCode.{LeadsOn}
use Rattle.ioc_events.proofs.starting.start_each.Given as goal

abbrev pub invariant-loop-left : goal.invariant-loop-left
invariant-loop-left g l =
    let k = g.S.Record.RecordKind.rules in
    let w = g.S.Store.world l.store in
    let w0 = g.S.Store.world l.fn.store in
    record {
      leads : ForAnswers (g.S.Store.given l.store) (λ answers. LeadsOn k g.met.S.Record.RecordKind.lawful answers (length w0.waiting) l.left w0 w l.fn.tally l.tally);
      run : HasRun k g.S.Device.Device.gives w0 w (g.S.Store.given l.fn.store) (g.S.Store.given l.store) l.fn.frames l.frames;
      next : CanRun k w l.frames;
    }

abbrev pub decreases-loop-left : goal.decreases-loop-left
decreases-loop-left g l = l.left
