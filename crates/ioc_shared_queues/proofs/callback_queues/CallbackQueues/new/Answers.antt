use Rattle.ioc_shared_queues.proofs.Steps.{begins}
use Rattle.ioc_shared_queues.proofs.callback_queues.CallbackQueues.new.Goals as goal

pub ruled-requires-clause-rule : goal.ruled-requires-clause-rule
ruled-requires-clause-rule g c = begins

pub ruled-requires-2-clause-rule : goal.ruled-requires-2-clause-rule
ruled-requires-2-clause-rule g c = begins

pub ruled-requires-3-clause-rule : goal.ruled-requires-3-clause-rule
ruled-requires-3-clause-rule g c = begins

pub ruled-requires-4-clause-rule : goal.ruled-requires-4-clause-rule
ruled-requires-4-clause-rule g c = begins
