use Rattle.std.proofs.Common.{rules, ◌≡◌, ℕ, ◌+◌, ◌-◌, ◌^◌, arith, subst, ◌∙◌, w32}
use Rattle.std.proofs.lemmas.Int.{to_z-of_z}
use Rattle.std.specs.Float.Ieee.Nearest.{closest}
use Rattle.std.specs.Float.Ieee.Positive.{num, den, den_pos}
use Rattle.ioc_double.proofs.NearestDecimal.{zero_is, zero_decimal, first_is, digits_fit, scientific_is}
use Rattle.ioc_double.proofs.scientific.scientific_of.Goals as goal

pub returns-then-leading-eq0 : goal.returns-then-leading-eq0
returns-then-leading-eq0 c =
    zero_decimal c.args.digits (num c.args.number) (den c.args.number)
    (zero_is c.exact_of-exact.result (num c.args.number) (den c.args.number) c.exact_of-exact.ensures c.if-leading-eq0.true)

pub overflow_sub-first : goal.overflow_sub-first
overflow_sub-first c =
    let l = first_is c.exact_of-exact.result (num c.args.number) (den c.args.number) c.ilog10-first.result c.exact_of-exact.ensures (den_pos c.args.number) c.ilog10-first.ensures.power_le
    c.ilog10-first.ensures.next_power_gt in
    omega arith

pub nearest-significand-requires-clause-positive : goal.nearest-significand-requires-clause-positive
nearest-significand-requires-clause-positive c =
    let l = first_is c.exact_of-exact.result (num c.args.number) (den c.args.number) c.ilog10-first.result c.exact_of-exact.ensures (den_pos c.args.number) c.ilog10-first.ensures.power_le
    c.ilog10-first.ensures.next_power_gt in
    omega arith

pub overflow_cast-significand : goal.overflow_cast-significand
overflow_cast-significand c = record {
  fits =
      digits_fit c.exact_of-exact.result (num c.args.number) (den c.args.number) c.args.digits c.ilog10-first.result _ c.from.result c.exact_of-exact.ensures (den_pos c.args.number)
      c.ilog10-first.ensures.power_le c.ilog10-first.ensures.next_power_gt c.requires.digits c.from.ensures
      (c.nearest-significand.ensures c.exact_of-exact.ensures.whole c.exact_of-exact.ensures.leading);
}

pub returns : goal.returns
returns c =
    c.carry_over.ensures
    ∙ scientific_is c.exact_of-exact.result (num c.args.number) (den c.args.number) c.args.digits c.ilog10-first.result _ _ c.exact_of-exact.ensures (den_pos c.args.number)
    c.ilog10-first.ensures.power_le c.ilog10-first.ensures.next_power_gt c.requires.digits
    (subst (λ (g : ℕ). c.nearest-significand.result ≡ closest c.exact_of-exact.ensures.whole (10 ^ (c.exact_of-exact.result.leading.dropped + (c.ilog10-first.result - g))))
    c.from.ensures (c.nearest-significand.ensures c.exact_of-exact.ensures.whole c.exact_of-exact.ensures.leading))
    (to_z-of_z w32 c.exponent_of-exponent.result (search (rules, c.exponent_of-exponent.type_inv)) ∙ c.exponent_of-exponent.ensures)
