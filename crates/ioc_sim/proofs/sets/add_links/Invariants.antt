use Rattle.std.proofs.Common.{◌≡◌, ◌++◌, length}
use Rattle.ioc_dbcommon.specs.Links.{named_by_all}
use Rattle.rec_types.specs.Record.{record_rules}
use Rattle.ioc_sim.specs.Sets.{joined_to}
use Rattle.ioc_sim.proofs.sets.add_links.Given as goal

abbrev pub invariant-loop-rest : goal.invariant-loop-rest
invariant-loop-rest l =
    l.edges.items ++ joined_to l.number (named_by_all (record_rules.link l.record) l.rest)
    ≡ l.initial.edges.items ++ joined_to l.number (named_by_all (record_rules.link l.record) l.initial.rest)

abbrev pub decreases-loop-rest : goal.decreases-loop-rest
decreases-loop-rest l = length l.rest
