use Rattle.std.proofs.Common.{◌≡◌}
use Rattle.ioc_journal.specs.Legal.{map_of}
use Rattle.ioc_journaled_set.specs.Copies.{IsIn}
use Rattle.ioc_journaled_set.specs.Holding.{HeldView}
use Rattle.ioc_journaled_set.proofs.Replaced.{AreReplaced}
use Rattle.ioc_journaled_set.proofs.checkpoint.move_all_on.Given as goal

-- The sets so far were moved on, and the journal is as it was.
abbrev pub invariant-loop-place : goal.invariant-loop-place
invariant-loop-place g l = record {
  moved : AreReplaced (λ (h : HeldView g.row.K.Denot g.row.D.Denot). h.set) (λ (h : HeldView g.row.K.Denot g.row.D.Denot). h.set) (IsIn (map_of g.K.RecordKind.rules g.B.JournalName.base l.fn.journal.filled)) l.fn.sets l.place l.sets;
  journal : l.journal ≡ l.fn.journal;
}
