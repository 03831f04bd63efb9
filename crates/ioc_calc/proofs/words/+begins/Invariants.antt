use Rattle.std.proofs.Common.{length}
use Rattle.ioc_calc.proofs.words.+begins.Given as goal

abbrev pub decreases-begins : goal.decreases-begins
decreases-begins l = length l.spelling.now
