use Rattle.std.proofs.Common.{◌≡◌, ◌+◌, ◌≤◌, drop}
use Rattle.std.specs.FinMap.{entries}
use Rattle.ioc_store.specs.World.{total}
use Rattle.ioc_set.specs.Awaiting.{one_if_awaits}
use Rattle.ioc_set.proofs.awaited.count_awaited.Given as goal

-- The records visited so far are counted.
abbrev pub invariant-loop-place : goal.invariant-loop-place
invariant-loop-place g l =
    (l.count + total (one_if_awaits g.K.RecordKind.rules) (drop l.place (entries l.members.records)) ≡ total (one_if_awaits g.K.RecordKind.rules) (entries l.members.records))
    × (l.count ≤ l.place)
