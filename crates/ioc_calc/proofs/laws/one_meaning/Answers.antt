use Rattle.ioc_calc.proofs.OneMeaning.{meanings_agree}
use Rattle.ioc_calc.proofs.laws.one_meaning.Goals as goal

pub returns : goal.returns
returns c = meanings_agree
