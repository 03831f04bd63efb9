use Rattle.ioc_set.specs.SetStore.{world_of}
use Rattle.ioc_engine_core.proofs.Requests.{served_one, runs_served}
use Rattle.ioc_engine_core.proofs.serving.run_server.Goals as goal

pub returns : goal.returns
returns g c =
    runs_served g.Q.SharedQueues.takes g.Q.SharedQueues.finds_empty _ _ _ _ (λ s. s.desk.account)
    (λ x item y was. served_one g.row.D.Denot g.K.RecordKind.rules g.B.JournalName.base g.D.Device.gives x.core.now.history (g.C.Clock.gives x.clock.now) item.«record» x.desk.account y.desk.account (world_of y.desk.buffers.store) was.0)
    (λ x item y same. same) (λ x item y same. same) _ _ _ _ c.run.ensures.runs
