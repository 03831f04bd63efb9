use Rattle.ioc_double.proofs.Counted.{exponent_of_double}
use Rattle.ioc_double.proofs.laws.exponent_is_exponent.Goals as goal

pub returns : goal.returns
returns c = exponent_of_double
