use Rattle.std.proofs.Common.{◌≡◌, [], drop}
use Rattle.ioc_set.specs.Recounting.{begun_each}
use Rattle.ioc_set.proofs.recount.begin_each.Given as goal

-- The ones visited so far have begun.
abbrev pub invariant-loop-live : goal.invariant-loop-live
invariant-loop-live l = (begun_each (drop l.live-index l.numbers) l.into.live.live ≡ begun_each l.numbers l.fn.into.live.live) × ((l.into.ended.items ≡ []) × (l.into.waiting ≡ l.fn.into.waiting))
