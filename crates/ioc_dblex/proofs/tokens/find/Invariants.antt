use Rattle.std.proofs.Common.{◌≡◌, ◌+◌, length}
use Rattle.ioc_dblex.specs.Bytes.{behind_gap}
use Rattle.ioc_dblex.specs.SeenPlace.{tokens_of_place}
use Rattle.ioc_dblex.proofs.tokens.find.Given as goal

abbrev pub invariant-loop-first : goal.invariant-loop-first
invariant-loop-first l =
    (tokens_of_place l.place ≡ tokens_of_place l.fn.place) × (behind_gap l.place.rest.now ≡ l.place.rest.now) × (l.place.line + length l.place.behind.lengths.now ≡ l.fn.place.line + length l.fn.place.behind.lengths.now) × (l.place.end ≡ l.fn.place.end)

abbrev pub decreases-loop-first : goal.decreases-loop-first
decreases-loop-first l = length l.place.behind.lengths.now
