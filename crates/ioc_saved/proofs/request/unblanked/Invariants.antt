use Rattle.std.proofs.Common.{◌≡◌, length}
use Rattle.ioc_saved.specs.Requests.{unblanked}
use Rattle.ioc_saved.proofs.request.unblanked.Given as goal

abbrev pub invariant-loop-rest : goal.invariant-loop-rest
invariant-loop-rest l = unblanked l.rest ≡ unblanked l.bytes

abbrev pub decreases-loop-rest : goal.decreases-loop-rest
decreases-loop-rest l = length l.rest
