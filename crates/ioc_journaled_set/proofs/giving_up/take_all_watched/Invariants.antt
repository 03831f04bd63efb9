use Rattle.std.proofs.Common.{◌≡◌, ◌<◌, ◌≤◌, ℕ, length}
use Rattle.std.specs.Prelude.{slice_index_or}
use Rattle.std.specs.Vec.{vec_capacity}
use Rattle.ioc_journaled_set.specs.Holding.{HeldView}
use Rattle.ioc_journaled_set.specs.Watching.{IsSameSet}
use Rattle.ioc_journaled_set.proofs.giving_up.take_all_watched.Given as goal

abbrev pub invariant-loop-i : goal.invariant-loop-i
invariant-loop-i g l = record {
  long : length l.held ≡ length l.fn.held;
  done : (j : ℕ) (d : HeldView g.row.K.Denot g.row.D.Denot) → j < l.i → IsSameSet (slice_index_or l.held j d) (slice_index_or l.fn.held j d);
  rest : (j : ℕ) (d : HeldView g.row.K.Denot g.row.D.Denot) → l.i ≤ j → slice_index_or l.held j d ≡ slice_index_or l.fn.held j d;
  count : length l.lists.items ≡ l.i;
  room : vec_capacity l.lists ≡ vec_capacity l.fn.lists;
}
