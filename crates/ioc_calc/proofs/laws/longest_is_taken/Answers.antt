use Rattle.ioc_calc.proofs.Longest.{longest}
use Rattle.ioc_calc.proofs.laws.longest_is_taken.Goals as goal

pub returns : goal.returns
returns c = longest
