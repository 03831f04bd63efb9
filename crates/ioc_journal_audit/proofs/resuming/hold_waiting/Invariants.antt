use Rattle.std.proofs.Common.{◌≡◌, ◌++◌, [], length}
use Rattle.ioc_journal_audit.specs.Resuming.{held_by_waiting}
use Rattle.ioc_journal_audit.proofs.resuming.hold_waiting.Given as goal

abbrev pub invariant-loop-rest : goal.invariant-loop-rest
invariant-loop-rest l =
    (held_by_waiting l.rest l.puts.live.live ≡ held_by_waiting l.waiting l.initial.puts.live.live)
    × (l.puts.ended.items ≡ []) × (l.puts.waiting.waiting ++ l.rest ≡ l.initial.puts.waiting.waiting ++ l.waiting)

abbrev pub decreases-loop-rest : goal.decreases-loop-rest
decreases-loop-rest l = length l.rest
