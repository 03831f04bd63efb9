use Rattle.std.proofs.Common.{◌≡◌}
use Rattle.ioc_journal.specs.Account.{HasSeenMore}
use Rattle.ioc_engine_core.proofs.engine.EngineCore.copy_records.Given as goal

-- The desk has seen more of the calls of others at each turn, and nothing else of it has changed.
abbrev pub invariant-loop : goal.invariant-loop
invariant-loop g l = record {
  seen : HasSeenMore l.fn.desk.account l.desk.account;
  buffers : l.desk.buffers ≡ l.fn.desk.buffers;
  moved : l.desk.moved ≡ l.fn.desk.moved;
}
