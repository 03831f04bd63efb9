use Rattle.std.proofs.Common.{◌≡◌, ◌*◌, ◌^◌}
use Rattle.ioc_double.specs.Groups.{value, AreGroups}
use Rattle.ioc_double.proofs.groups.multiply_by_power.Given as goal

abbrev pub invariant-loop : goal.invariant-loop
invariant-loop l = record {
  groups : AreGroups l.groups;
  value : value l.groups ≡ value l.initial.groups * l.base ^ (13 * l.counter);
}
