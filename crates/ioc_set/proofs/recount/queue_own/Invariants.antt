use Rattle.std.proofs.Common.{◌≡◌, ◌++◌, take}
use Rattle.ioc_set.specs.Recounting.{own_waiting}
use Rattle.ioc_set.proofs.recount.queue_own.Given as goal

-- The ones visited so far wait here, if they wait for one of the records.
abbrev pub invariant-loop-item : goal.invariant-loop-item
invariant-loop-item g l =
    (l.into.waiting.waiting ≡ l.fn.into.waiting.waiting ++ own_waiting l.members.records (take l.item-index l.from))
    × ((l.into.ended.items ≡ l.fn.into.ended.items) × (l.into.live ≡ l.fn.into.live))
