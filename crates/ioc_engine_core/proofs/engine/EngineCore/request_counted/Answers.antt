use Rattle.std.proofs.Common.{sym, ◌∙◌}
use Rattle.ioc_engine_core.proofs.Requests.{served_if_ok}
use Rattle.ioc_engine_core.proofs.engine.EngineCore.request_counted.Goals as goal

pub returns-clause-served : goal.returns-clause-served
returns-clause-served g c = served_if_ok _ _ _ _ _ _ _ _ _ _ c.request-requested.result c.request-requested.ensures.served (sym c.is_err-2.ensures.value ∙ c.if-is_err-2.false)
