use Rattle.ioc_shared_queues.proofs.Steps.{begins}
use Rattle.ioc_shared_queues.proofs.shared_queue.SharedQueue.new.Goals as goal

pub ruled-requires-clause-rule : goal.ruled-requires-clause-rule
ruled-requires-clause-rule g c = begins
