use Rattle.std.proofs.Common.{◌≡◌, ◌+◌, ◌≤◌, length}
use Rattle.ioc_scan_rules.specs.Asked.{callbacks_of}
use Rattle.ioc_sim.specs.Scanner.{with_requests, count_called}
use Rattle.ioc_sim.proofs.scanner.push_each.Given as goal

abbrev pub invariant-loop-rest : goal.invariant-loop-rest
invariant-loop-rest l =
    (with_requests l.queues (callbacks_of l.rest) ≡ with_requests l.initial.queues (callbacks_of l.listed))
    × (l.count + count_called l.queues l.rest ≡ count_called l.initial.queues l.listed) × (l.count + length l.rest ≤ length l.listed)

abbrev pub decreases-loop-rest : goal.decreases-loop-rest
decreases-loop-rest l = length l.rest
