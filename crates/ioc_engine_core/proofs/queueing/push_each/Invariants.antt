use Rattle.std.proofs.Common.{ℕ, length}
use Rattle.ioc_scan_rules.specs.Asked.{callbacks_of}
use Rattle.ioc_engine_core.specs.Queueing.{ArePushed}
use Rattle.ioc_engine_core.proofs.queueing.push_each.Given as goal

-- Whoever pushes what is left pushes all.
abbrev pub invariant-loop-rest : goal.invariant-loop-rest
invariant-loop-rest g l = record {
  lane : g.Q.SharedQueues.is_lane l.queues l.lane;
  left : (m : g.row.P.Denot) (after : ℕ)
      → ArePushed g.Q.SharedQueues.puts g.Q.SharedQueues.finds_full (callbacks_of l.rest) l.tickets after l.lane m
      → ArePushed g.Q.SharedQueues.puts g.Q.SharedQueues.finds_full (callbacks_of l.listed) l.initial.tickets after l.initial.lane m;
}

abbrev pub decreases-loop-rest : goal.decreases-loop-rest
decreases-loop-rest g l = length l.rest
