use Rattle.ioc_double.proofs.LastDigits.{fraction_short}
use Rattle.ioc_double.proofs.pieces.push_fraction.Goals as goal

pub returns-then-count-ne0-clause-short : goal.returns-then-count-ne0-clause-short
returns-then-count-ne0-clause-short c = fraction_short _ _ _ c.args.count c.args.number c.push.ensures.items c.push_digits.ensures
