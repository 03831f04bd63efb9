use Rattle.std.proofs.Common.{◌≡◌, ◌+◌, ◌++◌, length}
use Rattle.std.specs.List.{enumerate_from}
use Rattle.rec_types.specs.Record.{record_rules}
use Rattle.ioc_sim.specs.Sets.{joined_by}
use Rattle.ioc_sim.proofs.sets.links_of.Given as goal

abbrev pub invariant-loop-rest : goal.invariant-loop-rest
invariant-loop-rest l =
    (l.edges.items ++ joined_by record_rules (enumerate_from l.number l.rest) ≡ joined_by record_rules (enumerate_from 0 l.records))
    × (l.number + length l.rest ≡ length l.records)

abbrev pub decreases-loop-rest : goal.decreases-loop-rest
decreases-loop-rest l = length l.rest
