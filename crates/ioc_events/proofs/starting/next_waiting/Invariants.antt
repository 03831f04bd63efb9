use Rattle.std.proofs.Common.{◌≡◌, length}
use Rattle.ioc_events.specs.Starting.{next_from, next_waiting}
use Rattle.ioc_events.proofs.starting.next_waiting.Given as goal

-- The one that starts next, of the best so far and of those that are left.
abbrev pub invariant-loop-rest : goal.invariant-loop-rest
invariant-loop-rest g l = next_from g.S.Record.RecordKind.rules (g.S.Store.world l.fn.store) l.next l.rest ≡ next_waiting g.S.Record.RecordKind.rules (g.S.Store.world l.fn.store)

abbrev pub decreases-loop-rest : goal.decreases-loop-rest
decreases-loop-rest g l = length l.rest
