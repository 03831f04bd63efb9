use Rattle.ioc_process.specs.Quieting.{settled_by}
use Rattle.ioc_process.proofs.rules.settled_by_records.Goals as goal

pub returns : goal.returns
returns g c w v same settled = settled_by g.K.RecordKind.rules w v same settled
