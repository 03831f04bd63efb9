use Rattle.std.proofs.Common.{◌≡◌, [], length}
use Rattle.ioc_journal_audit.specs.Resuming.{held_by_records}
use Rattle.ioc_journal_audit.proofs.resuming.hold_records.Given as goal

abbrev pub invariant-loop-rest : goal.invariant-loop-rest
invariant-loop-rest l =
    (held_by_records l.rest l.puts.live.live ≡ held_by_records l.records l.initial.puts.live.live)
    × (l.puts.ended.items ≡ []) × (l.puts.waiting ≡ l.initial.puts.waiting)

abbrev pub decreases-loop-rest : goal.decreases-loop-rest
decreases-loop-rest l = length l.rest
