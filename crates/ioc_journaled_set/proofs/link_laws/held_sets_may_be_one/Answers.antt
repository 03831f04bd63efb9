use Rattle.ioc_journaled_set.proofs.SetsTogether.{sets-may-be-one}
use Rattle.ioc_journaled_set.proofs.link_laws.held_sets_may_be_one.Goals as goal

pub returns : goal.returns
returns g c = sets-may-be-one g.row.D.Denot g.K.RecordKind.rules
