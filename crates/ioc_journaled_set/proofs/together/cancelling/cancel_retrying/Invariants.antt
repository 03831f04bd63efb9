use Rattle.std.proofs.Common.{◌≡◌}
use Rattle.ioc_journaled_set.proofs.together.cancelling.cancel_retrying.Given as goal

abbrev pub invariant-loop : goal.invariant-loop
invariant-loop g l = record {
  goes_on : (goal.iterator-loop g).can_next l.iterator' × (goal.iterator-loop g).is_finite l.iterator';
  same : l.set ≡ l.fn.set;
}
