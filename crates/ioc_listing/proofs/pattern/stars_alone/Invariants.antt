use Rattle.std.proofs.Common.{◌≡◌, [], length}
use Rattle.ioc_listing.specs.Patterns.{matches}
use Rattle.ioc_listing.proofs.pattern.stars_alone.Given as goal

abbrev pub invariant-loop-rest : goal.invariant-loop-rest
invariant-loop-rest l = matches l.rest [] ≡ matches l.pattern []

abbrev pub decreases-loop-rest : goal.decreases-loop-rest
decreases-loop-rest l = length l.rest
