use Rattle.ioc_dbcommon.proofs.Once.{past_stays}
use Rattle.ioc_dbcommon.specs.Steps.{answered}
use Rattle.ioc_dbcommon.proofs.laws.numbers_are_awaited_once.Goals as goal

pub returns-clause-once : goal.returns-clause-once
returns-clause-once c = λ common number later low awaited. past_stays (answered common) number later low (λ e. cc)
