use Rattle.std.proofs.Common.{◌≡◌, drop}
use Rattle.ioc_set.specs.Recounting.{lost_each}
use Rattle.ioc_set.proofs.recount.let_go_each.Given as goal

-- The ones visited so far have one part less.
abbrev pub invariant-loop-live : goal.invariant-loop-live
invariant-loop-live l = (lost_each (drop l.live-index l.numbers) l.into.live.live ≡ lost_each l.numbers l.fn.into.live.live) × (l.into.waiting ≡ l.fn.into.waiting)
