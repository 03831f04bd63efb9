use Rattle.ioc_engine.proofs.TypeRefusals.{ok_then, err_then, served-can, refused-put}
use Rattle.ioc_engine.proofs.engine.Engine.put.Goals as goal

pub returns-clause-refused_by_type : goal.returns-clause-refused_by_type
returns-clause-refused_by_type g c =
    err_then _ _ c.serve.result (λ e why. refused-put g.B.JournalName.base c.args.channel c.types_stay.ensures.held c.record-number.result c.record-number.ensures c.args.self.now.core.count e why)
    c.serve.ensures.refused

pub returns-clause-can_be_put : goal.returns-clause-can_be_put
returns-clause-can_be_put g c =
    ok_then _ _ c.serve.result (λ x was. served-can g.B.JournalName.base c.args.channel c.types_stay.ensures.held c.record-number.result c.record-number.ensures was.2)
    c.serve.ensures.done
