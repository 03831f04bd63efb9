use Rattle.ioc_journal.specs.Account.{HasSeenMore}
use Rattle.ioc_engine_core.proofs.engine.EngineCore.checkpoint_from.Given as goal

-- The desk has seen more of the calls of others at each turn.
abbrev pub invariant-loop : goal.invariant-loop
invariant-loop g l = HasSeenMore l.fn.desk.account l.desk.account
