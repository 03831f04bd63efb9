use Rattle.std.proofs.Common.{◌≡◌, drop}
use Rattle.ioc_set.specs.Recounting.{gained_each}
use Rattle.ioc_set.proofs.recount.count_waiting.Given as goal

-- The ones visited so far are counted.
abbrev pub invariant-loop-place : goal.invariant-loop-place
invariant-loop-place l =
    (gained_each (drop l.place l.fn.into.waiting.waiting) l.into.live.live ≡ gained_each l.fn.into.waiting.waiting l.fn.into.live.live)
    × ((l.into.ended.items ≡ l.fn.into.ended.items) × (l.into.waiting ≡ l.fn.into.waiting))
