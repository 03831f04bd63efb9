use Rattle.std.proofs.Common.{ap}
use Rattle.ioc_events.proofs.Beginning.{step-begins}
use Rattle.ioc_set.specs.Puts.{is_put_with_notification}
use Rattle.ioc_set.proofs.laws.notifications_begin_by_notify.Goals as goal

pub returns : goal.returns
returns g c answers w after event reply requests n step is = ap is_put_with_notification (step-begins g.K.RecordKind.rules answers n step is).event_is
