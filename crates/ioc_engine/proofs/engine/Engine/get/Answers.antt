use Rattle.ioc_engine.proofs.TypeRefusals.{ok_then, err_then, told-has, refused-get}
use Rattle.ioc_engine.proofs.engine.Engine.get.Goals as goal

pub returns-clause-refused_by_type : goal.returns-clause-refused_by_type
returns-clause-refused_by_type g c =
    err_then _ _ c.get-told.result (λ e why. refused-get g.B.JournalName.base c.args.channel c.types_stay.ensures.held c.record.result c.record.ensures c.args.self.now.core.count e why)
    c.get-told.ensures.refused

pub returns-clause-has_field : goal.returns-clause-has_field
returns-clause-has_field g c =
    ok_then _ _ c.get-told.result (λ x was. told-has g.B.JournalName.base c.args.channel c.types_stay.ensures.held c.record.result c.record.ensures was.2)
    c.get-told.ensures.told
