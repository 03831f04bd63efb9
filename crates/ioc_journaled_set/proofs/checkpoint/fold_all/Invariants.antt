use Rattle.ioc_set.specs.SetState.{folded}
use Rattle.ioc_journaled_set.specs.Holding.{HeldView}
use Rattle.ioc_journaled_set.proofs.Replaced.{AreReplaced}
use Rattle.ioc_journaled_set.proofs.checkpoint.fold_all.Given as goal

-- The histories of the sets so far are cleared.
abbrev pub invariant-loop-place : goal.invariant-loop-place
invariant-loop-place g l =
    AreReplaced (λ (h : HeldView g.row.K.Denot g.row.D.Denot). h.set) (λ (h : HeldView g.row.K.Denot g.row.D.Denot). folded h.set) (λ (h : HeldView g.row.K.Denot g.row.D.Denot). Unit {0}) l.fn.sets l.place l.sets
