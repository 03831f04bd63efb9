use Rattle.std.proofs.Common.{◌≡◌, ℕ, ◌<◌, true}
use Rattle.std.specs.Prelude.{slice_index_or}
use Rattle.ioc_notify.specs.Living.{is_live}
use Rattle.ioc_set.specs.SetState.{SetState}
use Rattle.ioc_journaled_set.proofs.together.counting.all_live.Given as goal

abbrev pub invariant-loop-set : goal.invariant-loop-set
invariant-loop-set g l = (i : ℕ) (d : SetState g.row.K.Denot g.row.D.Denot) → i < l.set-index → is_live l.number (slice_index_or l.sets i d).live ≡ true
