use Rattle.std.proofs.Common.{ℕ, ◌%◌, ◌/◌, ◌<◌, ◌^◌, set, replicate, arith}
use Rattle.ioc_double.specs.Groups.{AreGroups}
use Rattle.ioc_double.proofs.Values.{groups_set, groups_zero}
use Rattle.ioc_double.proofs.exact.with_zeros.Goals as goal

below_base : (n : ℕ) → n < 2 ^ 53 → AreGroups (set (set (replicate 90 0) 3 (n % 10 ^ 9)) 4 (n / 10 ^ 9))
below_base n h = groups_set (set (replicate 90 0) 3 (n % 10 ^ 9)) 4 (n / 10 ^ 9) (groups_set (replicate 90 0) 3 (n % 10 ^ 9) (groups_zero 90) (omega arith)) (omega arith)

pub returns-clause-groups : goal.returns-clause-groups
returns-clause-groups c = below_base c.args.number c.requires
