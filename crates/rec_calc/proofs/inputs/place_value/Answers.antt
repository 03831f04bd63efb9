use Rattle.std.proofs.Common.{rules}
use Rattle.ioc_double.specs.Size.{whole_double}
use Rattle.rec_calc.proofs.Placing.{placed_at, placed_nowhere}
use Rattle.rec_calc.proofs.inputs.place_value.Goals as goal

pub returns-then-number-lt12 : goal.returns-then-number-lt12
returns-then-number-lt12 c =
    placed_at (whole_double 0) c.args.values.now c.args.slot c.index-number.result c.args.value (search rules) c.index-number.ensures.number
    c.if-number-lt12.true

pub returns-else-number-lt12 : goal.returns-else-number-lt12
returns-else-number-lt12 c =
    placed_nowhere (whole_double 0) c.args.values.now c.args.slot c.index-number.result c.args.value (search rules) c.index-number.ensures.number
    c.if-number-lt12.false
