use Rattle.std.proofs.Common.{◌+◌, ◌*◌, ◌≤◌, length}
use Rattle.ioc_double.specs.Groups.{value, AreGroups}
use Rattle.ioc_double.proofs.LeadingOf.{HasLed}
use Rattle.ioc_double.proofs.groups.leading_digits.Given as goal

abbrev pub invariant-loop-rest : goal.invariant-loop-rest
invariant-loop-rest l = record {
  groups : AreGroups l.rest;
  led : HasLed (value l.groups) l.rest l.head l.dropped l.more;
  count : l.dropped + 9 * length l.rest ≤ 810;
}

abbrev pub decreases-loop-rest : goal.decreases-loop-rest
decreases-loop-rest l = length l.rest
