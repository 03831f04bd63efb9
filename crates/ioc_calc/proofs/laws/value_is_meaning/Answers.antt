use Rattle.ioc_calc.proofs.Programs.{run_means}
use Rattle.ioc_calc.proofs.laws.value_is_meaning.Goals as goal

pub returns : goal.returns
returns c = run_means
