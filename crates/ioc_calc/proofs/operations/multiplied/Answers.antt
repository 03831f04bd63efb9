use Rattle.std.proofs.Common.{sym, ◌∙◌, ap, ◌-◌, ◌+◌, ◌/◌, arith}
use Rattle.std.specs.Float.Ieee.{binary64, mul}
use Rattle.ioc_calc.specs.Operations.{multiplied}
use Rattle.ioc_calc.proofs.Powers.{multiplied_done, multiplied_turn, multiplied_over}
use Rattle.ioc_calc.proofs.operations.multiplied.Goals as goal

pub returns-then-rest-eq0 : goal.returns-then-rest-eq0
returns-then-rest-eq0 c = sym (multiplied_done (7 - c.loop.counter) c.loop.product c.loop.square c.loop.rest c.if-rest-eq0.true)
    ∙ c.loop.invariant

pub loop-preserved : goal.loop-preserved
loop-preserved c =
    ap (λ p. multiplied (7 - (c.loop.counter + 1)) p (mul binary64 c.loop.square c.loop.square)
    (c.loop.rest / 2)) c.multiplied_once-product.ensures
    ∙ sym (multiplied_turn c.loop.counter c.loop.product c.loop.square c.loop.rest c.loop-test.true c.if-rest-eq0.false)
    ∙ c.loop.invariant

pub returns : goal.returns
returns c = sym (multiplied_over (7 - c.loop.counter) c.loop.product c.loop.square c.loop.rest (omega arith)) ∙ c.loop.invariant
