use Rattle.std.proofs.Common.{length}
use Rattle.ioc_calc.proofs.grammar.+left_out_in.Given as goal

abbrev pub decreases-left_out_in : goal.decreases-left_out_in
decreases-left_out_in l = length l.tokens.now
