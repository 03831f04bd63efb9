use Rattle.std.proofs.Common.{◌≡◌, ◌++◌, take}
use Rattle.ioc_set.proofs.recount.queue_all.Given as goal

-- The ones visited so far wait here.
abbrev pub invariant-loop-item : goal.invariant-loop-item
invariant-loop-item l =
    (l.into.waiting.waiting ≡ l.fn.into.waiting.waiting ++ take l.item-index l.from)
    × ((l.into.ended.items ≡ l.fn.into.ended.items) × (l.into.live ≡ l.fn.into.live))
