use Rattle.std.proofs.Common.{◌≡◌, length}
use Rattle.ioc_journaled_set.specs.Holding.{HeldView}
use Rattle.ioc_journaled_set.proofs.Copied.{AreOfFirst}
use Rattle.ioc_journaled_set.proofs.copying.copy_records.Given as goal

abbrev pub invariant-loop-held : goal.invariant-loop-held
invariant-loop-held g l = record {
  count : length l.copies.items ≡ length l.fn.copies.items;
  first : AreOfFirst (λ (h : HeldView g.row.K.Denot g.row.D.Denot). h.set.records) l.sets l.held-index l.copies.items;
}
