use Rattle.std.proofs.Common.{◌≤◌}
use Rattle.std.specs.Vec.{vec_capacity}
use Rattle.ioc_engine_core.specs.Requested.{HasServed}
use Rattle.ioc_engine_core.proofs.engine.EngineCore.request_each.Given as goal

-- The requests so far were served, at most one for each record, and there is room for the puts with
-- notification that the next one may end.
abbrev pub invariant-loop-place : goal.invariant-loop-place
invariant-loop-place g l = record {
  served : HasServed l.requested l.fn.desk.account l.desk.account;
  most : l.requested ≤ l.place;
  room : 256 ≤ vec_capacity l.ended;
}
