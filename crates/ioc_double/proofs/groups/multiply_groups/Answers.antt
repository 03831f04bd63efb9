use Rattle.std.proofs.Common.{ℕ, ◌+◌, ◌*◌, arith, ap, ◌∙◌, get_or-set_other}
use Rattle.ioc_double.proofs.Values.{product_next, carry_small, groups_set}
use Rattle.ioc_double.proofs.groups.multiply_groups.Goals as goal

pub loop-group-preserved : goal.loop-group-preserved
loop-group-preserved c =
    let i = c.loop-group.group-index in
    let same = c.loop-group.invariant.rest i (omega arith) in
    record {
      groups = groups_set c.loop-group.groups i _ c.loop-group.invariant.groups (omega arith);
      rest = λ k h. get_or-set_other c.loop-group.groups i k _ 0 (omega arith) ∙ c.loop-group.invariant.rest k (omega arith);
      product = product_next c.loop-group.groups c.args.groups.now i c.args.factor c.loop-group.carry _ (omega arith) (omega arith) c.loop-group.invariant.product
          (ap (λ (g : ℕ). g * c.args.factor + c.loop-group.carry) same);
      carry = carry_small _ c.args.factor c.loop-group.carry (c.loop-group.invariant.groups i) c.loop-group.invariant.carry;
    }
