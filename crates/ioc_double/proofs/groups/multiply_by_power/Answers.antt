use Rattle.std.proofs.Common.{◌*◌, ◌%◌, arith}
use Rattle.ioc_double.specs.Groups.{value}
use Rattle.ioc_double.proofs.Powers.{small_power, step_fits, step_value}
use Rattle.ioc_double.proofs.groups.multiply_by_power.Goals as goal

pub pow-requires : goal.pow-requires
pow-requires c = let h = small_power c.args.base 13 c.requires.small (omega arith) in omega arith

pub multiply_exactly-requires-clause-factor : goal.multiply_exactly-requires-clause-factor
multiply_exactly-requires-clause-factor c = let h = small_power c.args.base 13 c.requires.small (omega arith) in omega arith

pub multiply_exactly-requires-clause-fits : goal.multiply_exactly-requires-clause-fits
multiply_exactly-requires-clause-fits c =
    step_fits (value c.args.groups.now) _ c.args.base (13 * c.loop.counter) 13 c.args.exponent _ _ _ c.loop.invariant.value c.pow.ensures (omega arith) c.requires.positive
    c.requires.fits c.loop.auto.groups

pub loop-preserved : goal.loop-preserved
loop-preserved c = record {
  groups = c.multiply_exactly.ensures.groups;
  value = step_value (value c.args.groups.now) _ c.args.base (13 * c.loop.counter) 13 _ _ _ c.loop.invariant.value c.pow.ensures (omega arith) c.multiply_exactly.ensures.value;
}

pub pow-requires-2 : goal.pow-requires-2
pow-requires-2 c = let h = small_power c.args.base (c.args.exponent % 13) c.requires.small (omega arith) in omega arith

pub multiply_exactly-requires-2-clause-factor : goal.multiply_exactly-requires-2-clause-factor
multiply_exactly-requires-2-clause-factor c = let h = small_power c.args.base (c.args.exponent % 13) c.requires.small (omega arith) in omega arith

pub multiply_exactly-requires-2-clause-fits : goal.multiply_exactly-requires-2-clause-fits
multiply_exactly-requires-2-clause-fits c =
    step_fits (value c.args.groups.now) _ c.args.base (13 * c.loop.counter) (c.args.exponent % 13) c.args.exponent _ _ _ c.loop.invariant.value c.pow-2.ensures (omega arith)
    c.requires.positive c.requires.fits c.loop.auto.groups

pub returns-clause-value : goal.returns-clause-value
returns-clause-value c =
    step_value (value c.args.groups.now) _ c.args.base (13 * c.loop.counter) (c.args.exponent % 13) c.args.exponent _ _ c.loop.invariant.value c.pow-2.ensures (omega arith)
    c.multiply_exactly-2.ensures.value
