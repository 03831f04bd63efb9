use Rattle.ioc_events.proofs.Ended.{cancelled-over, free-over}
use Rattle.ioc_events.proofs.notification_rules.those_over_never_end.Goals as goal

pub returns-clause-cancelled : goal.returns-clause-cancelled
returns-clause-cancelled g c = λ answers w mid after number reply requests entries r rest is empty none. cancelled-over g.K.RecordKind.rules g.met.K.RecordKind.lawful answers r rest is empty none

pub returns-clause-not_held : goal.returns-clause-not_held
returns-clause-not_held g c = λ w after number entry entries r is free none. free-over g.K.RecordKind.rules g.met.K.RecordKind.lawful number r is free none
