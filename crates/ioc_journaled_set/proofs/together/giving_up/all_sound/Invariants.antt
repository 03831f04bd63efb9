use Rattle.std.proofs.Common.{ℕ, ◌<◌}
use Rattle.std.specs.Prelude.{slice_index_or}
use Rattle.ioc_set.specs.SetState.{SetState}
use Rattle.ioc_set.specs.Sound.{IsSound}
use Rattle.ioc_journaled_set.proofs.together.giving_up.all_sound.Given as goal

abbrev pub invariant-loop-set : goal.invariant-loop-set
invariant-loop-set g l = (i : ℕ) (d : SetState g.row.K.Denot g.row.D.Denot) → i < l.set-index → IsSound g.K.RecordKind.rules (slice_index_or l.sets i d)
