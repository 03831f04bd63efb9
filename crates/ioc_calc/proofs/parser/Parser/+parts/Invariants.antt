use Rattle.std.proofs.Common.{◌+◌, ◌*◌}
use Rattle.ioc_calc.proofs.parser.Parser.+parts.Given as goal

abbrev pub decreases-arguments : goal.decreases-arguments
decreases-arguments l = 4 * l.turns + 3

abbrev pub decreases-choice : goal.decreases-choice
decreases-choice l = 4 * l.turns + 2

abbrev pub decreases-function : goal.decreases-function
decreases-function l = 4 * l.turns + 1

abbrev pub decreases-level : goal.decreases-level
decreases-level l = 4 * l.turns + 3

abbrev pub decreases-more_arguments : goal.decreases-more_arguments
decreases-more_arguments l = 4 * l.turns + 3

abbrev pub decreases-operand : goal.decreases-operand
decreases-operand l = 4 * l.turns + 2

abbrev pub decreases-part : goal.decreases-part
decreases-part l = 4 * l.turns + 0

abbrev pub decreases-power : goal.decreases-power
decreases-power l = 4 * l.turns + 2

abbrev pub decreases-second_operand : goal.decreases-second_operand
decreases-second_operand l = 4 * l.turns + 2

abbrev pub decreases-second_side : goal.decreases-second_side
decreases-second_side l = 4 * l.turns + 1

abbrev pub decreases-tail : goal.decreases-tail
decreases-tail l = 4 * l.turns + 3

abbrev pub decreases-value : goal.decreases-value
decreases-value l = 4 * l.turns + 3
