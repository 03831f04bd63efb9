use Rattle.std.specs.Prelude.{List}
use Rattle.ioc_shared_queues.specs.Turns.{HandsBackEach}
use Rattle.ioc_shared_queues.proofs.draining.hand_back_all.Given as goal

abbrev pub invariant-loop : goal.invariant-loop
invariant-loop g l = record {
  lane : g.Q.SharedQueues.is_lane l.queues l.lane;
  items : (items : List g.row.T.Denot)
      × HandsBackEach g.Q.SharedQueues.takes g.Q.SharedQueues.finds_empty g.S.Serve.hands_back
      items l.initial.lane l.initial.serve l.lane l.serve;
}
