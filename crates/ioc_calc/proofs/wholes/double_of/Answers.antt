use Rattle.std.proofs.Common.{◌∙◌}
use Rattle.ioc_calc.proofs.WholeSizes.{signed_zero, signed_negative, signed_positive}
use Rattle.ioc_calc.proofs.wholes.double_of.Goals as goal

pub returns-then-whole-eq0 : goal.returns-then-whole-eq0
returns-then-whole-eq0 c = c.from.ensures ∙ signed_zero c.args.negative c.args.whole.digits c.args.whole.places c.if-whole-eq0.true

pub returns-then-negative : goal.returns-then-negative
returns-then-negative c = signed_negative c.args.negative c.args.whole.digits c.args.whole.places c.size_as_double-size.result
    c.if-negative.true c.if-whole-eq0.false c.size_as_double-size.ensures

pub returns-else-negative : goal.returns-else-negative
returns-else-negative c = signed_positive c.args.negative c.args.whole.digits c.args.whole.places c.size_as_double-size.result
    c.if-negative.false c.size_as_double-size.ensures
