use Rattle.ioc_shared_queues.proofs.Steps.{admits}
use Rattle.ioc_shared_queues.proofs.shared_queue.SharedQueue.lane.Goals as goal

pub pass-requires : goal.pass-requires
pass-requires g c = admits
