use Rattle.std.proofs.Common.{length}
use Rattle.ioc_calc.proofs.words.+longest_in.Given as goal

abbrev pub decreases-longest_in : goal.decreases-longest_in
decreases-longest_in l = length l.words.now
