use Rattle.std.proofs.Common.{◌≡◌, take}
use Rattle.std.specs.Vec.{vec_capacity}
use Rattle.ioc_set.proofs.recount.copy_live.Given as goal

-- The ones visited so far are copied.
abbrev pub invariant-loop-live : goal.invariant-loop-live
invariant-loop-live l = (l.into.items ≡ take l.live-index l.from) × (vec_capacity l.into ≡ vec_capacity l.fn.into)
