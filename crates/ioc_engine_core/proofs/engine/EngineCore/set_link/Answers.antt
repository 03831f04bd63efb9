use Rattle.ioc_engine_core.proofs.engine.EngineCore.set_link.Goals.{then-is_ok, else-is_ok}
use Rattle.ioc_engine_core.proofs.engine.EngineCore.set_link.Goals as goal

pub returns-clause-changed : goal.returns-clause-changed
returns-clause-changed g c = elim c.if-is_ok.branch [
  | then-is_ok w ↦ rw w.desk-is c.in_ok-changed.ensures.changed
  | else-is_ok w ↦ rw w.desk-is c.in_ok-changed.ensures.changed
]
