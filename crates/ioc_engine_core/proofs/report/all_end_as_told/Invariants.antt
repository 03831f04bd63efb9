use Rattle.std.proofs.Common.{ℕ, ◌<◌}
use Rattle.std.specs.Prelude.{slice_index_or}
use Rattle.ioc_journaled_set.specs.Holding.{HeldView}
use Rattle.ioc_watched.specs.Watched.{AreFresh}
use Rattle.ioc_engine_core.proofs.report.all_end_as_told.Given as goal

abbrev pub invariant-loop-held : goal.invariant-loop-held
invariant-loop-held g l = (i : ℕ) (d : HeldView g.row.K.Denot g.row.D.Denot) → i < l.held-index → AreFresh g.K.RecordKind.rules g.B.JournalName.base (slice_index_or l.sets i d).set.records (slice_index_or l.sets i d).watched
