use Rattle.ioc_shared_queues.proofs.Steps.{admits}
use Rattle.ioc_shared_queues.proofs.callback_queues.CallbackQueues.lane.Goals as goal

pub pass-requires : goal.pass-requires
pass-requires g c = admits

pub pass-requires-2 : goal.pass-requires-2
pass-requires-2 g c = admits

pub pass-requires-3 : goal.pass-requires-3
pass-requires-3 g c = admits

pub pass-requires-4 : goal.pass-requires-4
pass-requires-4 g c = admits
