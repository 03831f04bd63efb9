use Rattle.ioc_engine.proofs.Numbers.{number_stays}
use Rattle.ioc_engine.proofs.numbered.numbers_stay.Goals as goal

pub returns : goal.returns
returns g c = λ first last led. number_stays g.D.Device.gives led
