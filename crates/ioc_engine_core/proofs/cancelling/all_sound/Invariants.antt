use Rattle.std.proofs.Common.{ℕ, ◌<◌}
use Rattle.std.specs.Prelude.{slice_index_or}
use Rattle.ioc_journaled_set.specs.Holding.{HeldView, IsSoundlyHeld}
use Rattle.ioc_engine_core.proofs.cancelling.all_sound.Given as goal

abbrev pub invariant-loop-set : goal.invariant-loop-set
invariant-loop-set g l = (i : ℕ) (d : HeldView g.row.K.Denot g.row.D.Denot) → i < l.set-index → IsSoundlyHeld g.K.RecordKind.rules g.B.JournalName.base (slice_index_or l.sets i d)
