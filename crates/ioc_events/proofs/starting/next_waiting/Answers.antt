use Rattle.std.proofs.Common.{refl}
use Rattle.ioc_events.specs.Starting.{next_waiting}
use Rattle.ioc_events.proofs.starting.next_waiting.Goals as goal

pub loop-rest-init : goal.loop-rest-init
unfolding next_waiting
loop-rest-init g c = rw c.waiting-rest.ensures refl
