use Rattle.ioc_shared_queues.proofs.Steps.{takes, learns}
use Rattle.ioc_shared_queues.proofs.shared_queue.SharedQueue.take.Goals as goal

pub pop_as-requires-clause-rule : goal.pop_as-requires-clause-rule
pop_as-requires-clause-rule g c = (takes _ _, learns _ _)
