use Rattle.std.proofs.Common.{◌≡◌}
use Rattle.ioc_engine_core.proofs.engine.EngineCore.serve.Given as goal

-- A refused call has left the desk and the ticket as it was.
abbrev pub invariant-loop : goal.invariant-loop
invariant-loop g l = (l.desk.account ≡ l.fn.desk.account) × (l.ticket ≡ l.fn.ticket)
