use Rattle.std.proofs.Common.{arith}
use Rattle.ioc_calc.proofs.WholeSizes.{smaller_rest, larger_rest}
use Rattle.ioc_calc.proofs.wholes.rest_of.Goals as goal

pub returns-then-x-y-clause-value : goal.returns-then-x-y-clause-value
returns-then-x-y-clause-value c = smaller_rest c.args.x.digits c.args.x.places c.args.y.digits c.args.y.places c.requires.x_digits
    c.if-x-y.true (c.requires.y_normal (omega arith))

pub returns-else-x-y-clause-value : goal.returns-else-x-y-clause-value
returns-else-x-y-clause-value c = larger_rest c.args.x.digits c.args.x.places c.args.y.digits c.args.y.places c.doubled.result
    c.requires.y_digits.0 (omega arith) c.doubled.ensures.value
