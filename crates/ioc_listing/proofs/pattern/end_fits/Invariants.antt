use Rattle.std.proofs.Common.{◌≡◌, ◌+◌, length}
use Rattle.ioc_listing.specs.Patterns.{matches, some_end}
use Rattle.ioc_listing.proofs.pattern.end_fits.Given as goal

-- An end of the rest fits the rest of the pattern exactly if an end of the name fits the pattern.
abbrev pub invariant-loop-rest : goal.invariant-loop-rest
invariant-loop-rest l = some_end (matches l.wanted) l.rest ≡ some_end (matches l.pattern) l.name

abbrev pub decreases-loop-rest : goal.decreases-loop-rest
decreases-loop-rest l = length l.wanted + length l.rest
