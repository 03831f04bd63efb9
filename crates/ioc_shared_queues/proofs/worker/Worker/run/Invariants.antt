use Rattle.std.specs.Prelude.{List, Option}
use Rattle.ioc_shared_queues.specs.Turns.{Rounds}
use Rattle.ioc_shared_queues.proofs.worker.Worker.run.Given as goal

abbrev pub invariant-loop : goal.invariant-loop
invariant-loop g l = record {
  lane : g.Q.SharedQueues.is_lane l.queues l.self.lane;
  rounds : (rounds : List (Option g.row.T.Denot))
      × Rounds g.Q.SharedQueues.takes g.Q.SharedQueues.finds_empty g.Q.SharedQueues.sees_closed
      g.S.Serve.serves g.S.Serve.refuses g.S.Serve.hands_back rounds l.initial.self.lane l.initial.serve l.self.lane l.serve;
}
