use Rattle.ioc_shared_queues.proofs.Steps.{puts, learns}
use Rattle.ioc_shared_queues.proofs.callback_queues.put.Goals as goal

pub push_as-pushed-requires-clause-rule : goal.push_as-pushed-requires-clause-rule
push_as-pushed-requires-clause-rule g c = (puts _ _ _ _, learns _ _)
