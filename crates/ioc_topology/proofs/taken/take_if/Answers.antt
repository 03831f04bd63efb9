use Rattle.std.proofs.Common.{sym, ◌∙◌}
use Rattle.ioc_topology.proofs.taken.take_if.Goals as goal

pub returns-then-test-clause-met : goal.returns-then-test-clause-met
returns-then-test-clause-met g c = record {
  shown = c.deref-2.result;
  shows = c.deref-2.ensures ∙ sym (c.replace.ensures.value ∙ c.deref_mut.ensures.value);
  says = record { met = c.if-test.ensures };
}
