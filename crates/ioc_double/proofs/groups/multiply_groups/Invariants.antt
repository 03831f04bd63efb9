use Rattle.std.proofs.Common.{◌≡◌, ℕ, ◌+◌, ◌*◌, ◌^◌, ◌≤◌, get_or, take}
use Rattle.ioc_double.specs.Groups.{value, AreGroups}
use Rattle.ioc_double.proofs.groups.multiply_groups.Given as goal

abbrev pub invariant-loop-group : goal.invariant-loop-group
invariant-loop-group l = record {
  groups : AreGroups l.groups;
  rest : (k : ℕ) → l.group-index ≤ k → get_or l.groups k 0 ≡ get_or l.initial.groups k 0;
  product : value (take l.group-index l.groups) + 10 ^ (9 * l.group-index) * l.carry ≡ value (take l.group-index l.initial.groups) * l.factor;
  carry : l.carry ≤ l.factor;
}
