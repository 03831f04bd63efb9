use Rattle.std.proofs.Common.{◌≡◌}
use Rattle.ioc_engine_core.proofs.engine.EngineCore.try_cancel.Given as goal

abbrev pub invariant-loop : goal.invariant-loop
invariant-loop g l = l.desk.account ≡ l.fn.desk.account
