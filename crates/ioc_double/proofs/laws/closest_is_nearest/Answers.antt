use Rattle.ioc_double.proofs.Closest.{closest_nearest}
use Rattle.ioc_double.proofs.laws.closest_is_nearest.Goals as goal

pub returns : goal.returns
returns c = closest_nearest
