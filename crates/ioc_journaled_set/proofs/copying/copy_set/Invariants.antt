use Rattle.ioc_journaled_set.proofs.Copied.{AreFirst}
use Rattle.ioc_journaled_set.proofs.copying.copy_set.Given as goal

abbrev pub invariant-loop-place : goal.invariant-loop-place
invariant-loop-place g l = AreFirst l.set.records l.fn.copies.items l.place l.copies.items
