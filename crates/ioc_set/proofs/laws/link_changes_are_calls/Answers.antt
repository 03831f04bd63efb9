use Rattle.ioc_set.proofs.LinkEvents.{not_refused}
use Rattle.ioc_set.proofs.laws.link_changes_are_calls.Goals as goal

pub returns : goal.returns
returns g c w s field link has allowed within = not_refused g.K.RecordKind.rules w s field link has allowed within
