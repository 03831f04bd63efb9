use Rattle.ioc_set.specs.SetStore.{world_of}
use Rattle.ioc_engine_core.proofs.Requests.{requested_more}
use Rattle.ioc_engine_core.proofs.engine.EngineCore.request_all.Goals as goal

pub loop-rest-preserved : goal.loop-rest-preserved
loop-rest-preserved g c = λ after left.
    c.loop-rest.invariant after (requested_more g.row.D.Denot g.K.RecordKind.rules g.B.JournalName.base g.D.Device.gives c.args.self.now.history (g.C.Clock.gives c.args.clock.now)
    c.item-item.result c.loop-rest.rest.now c.loop-rest.desk.account c.request.new.desk.account after (world_of c.request.new.desk.buffers.store)
    c.in-len1-up.len_at_least c.item-item.is c.in_ok-request.ensures.served left)
