use Rattle.std.proofs.Common.{◌≡◌, take}
use Rattle.std.specs.Vec.{vec_capacity}
use Rattle.ioc_set.proofs.recount.copy_waiting.Given as goal

-- The ones visited so far are copied.
abbrev pub invariant-loop-item : goal.invariant-loop-item
invariant-loop-item l = (l.into.items ≡ take l.item-index l.from) × (vec_capacity l.into ≡ vec_capacity l.fn.into)
