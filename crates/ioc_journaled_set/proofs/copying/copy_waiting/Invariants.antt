use Rattle.std.proofs.Common.{◌≡◌, take}
use Rattle.std.specs.List.{flat_map}
use Rattle.ioc_journaled_set.specs.Holding.{HeldView}
use Rattle.ioc_journaled_set.proofs.copying.copy_waiting.Given as goal

abbrev pub invariant-loop-held : goal.invariant-loop-held
invariant-loop-held g l = l.waiting.items ≡ flat_map (λ (h : HeldView g.row.K.Denot g.row.D.Denot). h.set.waiting) (take l.held-index l.sets)
