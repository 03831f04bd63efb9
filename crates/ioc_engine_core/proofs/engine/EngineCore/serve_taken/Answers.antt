use Rattle.ioc_engine_core.proofs.Requests.{served_or_none}
use Rattle.ioc_engine_core.proofs.engine.EngineCore.serve_taken.Goals as goal

pub returns-in-Some : goal.returns-in-Some
returns-in-Some g c = served_or_none _ _ _ _ _ _ _ _ _ _ c.request-told.result c.request-told.ensures.served c.request-told.ensures.err

pub returns-in_default : goal.returns-in_default
returns-in_default g c = served_or_none _ _ _ _ _ _ _ _ _ _ c.request-told.result c.request-told.ensures.served c.request-told.ensures.err

pub returns-else-is_err : goal.returns-else-is_err
returns-else-is_err g c = served_or_none _ _ _ _ _ _ _ _ _ _ c.request-told.result c.request-told.ensures.served c.request-told.ensures.err
