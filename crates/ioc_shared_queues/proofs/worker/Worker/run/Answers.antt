use Rattle.std.specs.Prelude.{◌∷◌, Some, None}
use Rattle.ioc_shared_queues.proofs.worker.Worker.run.Goals as goal

pub loop-preserved-in-Served : goal.loop-preserved-in-Served
loop-preserved-in-Served g c =
    let r = c.loop.invariant.rounds in
    let s = c.round.ensures.served c.in-Served.is in
    record { lane = c.round.ensures.lane; rounds = (Some s.0 ∷ r.0, (_, _, r.1, s.1)) }

pub loop-preserved-in-Served-doze : goal.loop-preserved-in-Served-doze
loop-preserved-in-Served-doze g c =
    let r = c.loop.invariant.rounds in
    let i = c.round.ensures.idle c.in-Idle.is in
    let s = c.doze.ensures.served c.in-Served-doze.is in
    record { lane = c.doze.ensures.lane; rounds = (Some s.0 ∷ None ∷ r.0, (_, _, (_, _, r.1, i), s.1)) }

pub returns-in-Ended-doze-clause-runs : goal.returns-in-Ended-doze-clause-runs
returns-in-Ended-doze-clause-runs g c =
    let r = c.loop.invariant.rounds in
    let i = c.round.ensures.idle c.in-Idle.is in
    (None ∷ r.0, _, _, (_, _, r.1, i), c.doze.ensures.ended c.in-Ended-doze.is)

pub loop-preserved : goal.loop-preserved
loop-preserved g c =
    let r = c.loop.invariant.rounds in
    let i = c.round.ensures.idle c.in-Idle.is in
    let s = c.doze.ensures.idle c.in-Idle-doze.is in
    record { lane = c.doze.ensures.lane; rounds = (None ∷ None ∷ r.0, (_, _, (_, _, r.1, i), s)) }
