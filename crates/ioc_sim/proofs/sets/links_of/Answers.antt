use Rattle.std.proofs.Common.{ℕ, ◌++◌, ap, ◌∙◌, arith}
use Rattle.ioc_record.specs.RecordRules.{targets}
use Rattle.rec_types.specs.Record.{record_rules}
use Rattle.ioc_sim.specs.Sets.{joined_to}
use Rattle.ioc_sim.proofs.Joining.{joined_more}
use Rattle.ioc_sim.proofs.sets.links_of.Goals as goal

pub loop-rest-preserved : goal.loop-rest-preserved
loop-rest-preserved c =
    (joined_more record_rules c.loop-rest.edges.items c.add_links.new.edges.items c.loop-rest.number c.record-item.result c.loop-rest.rest.now c.in-len1-up.len_at_least c.record-item.is (c.in_ok-add_links.ensures ∙ ap (λ (n : ℕ). c.loop-rest.edges.items ++ joined_to n (targets record_rules c.record-item.result)) c.new.ensures) ∙ c.loop-rest.invariant.0, omega (arith, c.loop-rest.invariant.1, c.in-len1-up.len_at_least))
