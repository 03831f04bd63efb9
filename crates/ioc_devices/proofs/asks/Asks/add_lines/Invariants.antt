use Rattle.std.proofs.Common.{List, ℕ, length}
use Rattle.ioc_devices.specs.Asking.{TellsAll}
use Rattle.ioc_devices.proofs.asks.Asks.add_lines.Given as goal

-- What is told behind the lines so far tells all of it.
abbrev pub invariant-loop-rest : goal.invariant-loop-rest
invariant-loop-rest l =
    (end : List ℕ) → TellsAll l.self.records.items l.rest l.out.items end → TellsAll l.self.records.items l.all l.initial.out.items end

abbrev pub decreases-loop-rest : goal.decreases-loop-rest
decreases-loop-rest l = length l.rest
