use Rattle.ioc_shared_queues.proofs.Steps.{puts, learns}
use Rattle.ioc_shared_queues.proofs.shared_queue.SharedQueue.put.Goals as goal

pub push_as-requires-clause-rule : goal.push_as-requires-clause-rule
push_as-requires-clause-rule g c = (puts _ _ _ _, learns _ _)
