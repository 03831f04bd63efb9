use Rattle.std.proofs.Common.{◌+◌, ◌*◌}
use Rattle.ioc_calc.proofs.parser.Parser.+statements.Given as goal

abbrev pub decreases-statements : goal.decreases-statements
decreases-statements l = 2 * l.turns

abbrev pub decreases-ended : goal.decreases-ended
decreases-ended l = 2 * l.turns + 1
