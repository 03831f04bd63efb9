use Rattle.std.proofs.Common.{◌≡◌, ◌++◌, map, take, drop}
use Rattle.ioc_store.specs.World.{freed}
use Rattle.ioc_store.proofs.one_map.free_all.Given as goal

-- The records visited so far are freed.
abbrev pub invariant-loop-record : goal.invariant-loop-record
invariant-loop-record g l = l.record-items ≡ map (freed g.K.RecordKind.rules l.notification) (take l.record-index l.fn.records.items) ++ drop l.record-index l.fn.records.items
