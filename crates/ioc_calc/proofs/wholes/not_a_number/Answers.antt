use Rattle.ioc_calc.proofs.WholeSizes.{nan_is}
use Rattle.ioc_calc.proofs.wholes.not_a_number.Goals as goal

pub returns : goal.returns
returns c = nan_is
