use Rattle.std.proofs.Common.{◌≡◌, length}
use Rattle.ioc_links.specs.Classes.{all_of}
use Rattle.ioc_links.proofs.class.all_of.Given as goal

abbrev pub invariant-loop-rest : goal.invariant-loop-rest
invariant-loop-rest l = all_of l.class l.rest ≡ all_of l.class l.bytes

abbrev pub decreases-loop-rest : goal.decreases-loop-rest
decreases-loop-rest l = length l.rest
