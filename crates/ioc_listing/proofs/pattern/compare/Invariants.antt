use Rattle.std.proofs.Common.{◌≡◌, length}
use Rattle.ioc_listing.specs.Patterns.{front_of}
use Rattle.ioc_listing.proofs.pattern.compare.Given as goal

-- What the rest comes to is what the whole comes to.
abbrev pub invariant-loop-wanted : goal.invariant-loop-wanted
invariant-loop-wanted l = front_of l.wanted l.rest ≡ front_of l.pattern l.name

abbrev pub decreases-loop-wanted : goal.decreases-loop-wanted
decreases-loop-wanted l = length l.wanted
