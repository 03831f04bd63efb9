use Rattle.std.proofs.Common.{◌≡◌, drop}
use Rattle.std.specs.FinMap.{entries}
use Rattle.ioc_set.specs.Recounting.{gained_by}
use Rattle.ioc_set.proofs.recount.count_records.Given as goal

-- The records visited so far are counted.
abbrev pub invariant-loop-place : goal.invariant-loop-place
invariant-loop-place g l =
    (gained_by g.K.RecordKind.rules (drop l.place (entries l.members.records)) l.into.live.live ≡ gained_by g.K.RecordKind.rules (entries l.members.records) l.fn.into.live.live)
    × ((l.into.ended.items ≡ l.fn.into.ended.items) × (l.into.waiting ≡ l.fn.into.waiting))
