use Rattle.std.proofs.Common.{length}
use Rattle.ioc_calc.proofs.lexer.+hexadecimal_from.Given as goal

abbrev pub decreases-hexadecimal_from : goal.decreases-hexadecimal_from
decreases-hexadecimal_from l = length l.digits.now
