use Rattle.std.proofs.Common.{rules}
use Rattle.ioc_dbcommon.specs.Links.{no_link}
use Rattle.rec_calc.proofs.Placing.{placed_at, placed_nowhere}
use Rattle.rec_calc.proofs.inputs.place_link.Goals as goal

pub returns-then-number-lt12 : goal.returns-then-number-lt12
returns-then-number-lt12 c =
    placed_at no_link c.args.links.now c.args.slot c.index-number.result c.args.link (search rules) c.index-number.ensures.number
    c.if-number-lt12.true

pub returns-else-number-lt12 : goal.returns-else-number-lt12
returns-else-number-lt12 c =
    placed_nowhere no_link c.args.links.now c.args.slot c.index-number.result c.args.link (search rules) c.index-number.ensures.number
    c.if-number-lt12.false
