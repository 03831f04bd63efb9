use Rattle.std.proofs.Common.{◌≡◌, length}
use Rattle.ioc_journaled_set.specs.Copies.{AreEmpty}
use Rattle.ioc_journaled_set.proofs.checkpoint.empty_places.Given as goal

abbrev pub invariant-loop-place : goal.invariant-loop-place
invariant-loop-place g l = record { count : length l.places.items ≡ l._place; empty : AreEmpty l.places.items }
