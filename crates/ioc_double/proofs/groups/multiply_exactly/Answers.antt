use Rattle.ioc_double.proofs.Powers.{no_carry}
use Rattle.ioc_double.proofs.groups.multiply_exactly.Goals as goal

pub returns-clause-value : goal.returns-clause-value
returns-clause-value c = no_carry _ _ c.multiply_groups.result _ c.multiply_groups.ensures.value c.requires.fits
