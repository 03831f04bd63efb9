use Rattle.std.proofs.Common.{◌≡◌, length}
use Rattle.ioc_sim.specs.Scanner.{with_items}
use Rattle.ioc_sim.proofs.scanner.Scanner.do_items.Given as goal

abbrev pub invariant-loop-rest : goal.invariant-loop-rest
invariant-loop-rest l = with_items l.self l.rest ≡ with_items l.initial.self l.items

abbrev pub decreases-loop-rest : goal.decreases-loop-rest
decreases-loop-rest l = length l.rest
