use Rattle.ioc_set.proofs.Staying.{stays_without, ends_none}
use Rattle.ioc_set.proofs.laws.sets_stay_without_puts.Goals as goal

pub returns-clause-stay : goal.returns-clause-stay
returns-clause-stay g c most h after moment event reply come_to does ordinary sound none =
    stays_without g.K.RecordKind.rules g.D.Device.gives c.rules_are_steps.ensures.allowed c.none_live_stays_so.ensures c.notifications_begin_by_notify.ensures most h after moment event reply come_to does ordinary sound none

pub returns-clause-ended : goal.returns-clause-ended
returns-clause-ended g c most h after moment event reply come_to does ordinary sound none =
    ends_none g.K.RecordKind.rules g.D.Device.gives c.rules_are_steps.ensures.allowed c.notifications_begin_by_notify.ensures
    c.events_count_holders.ensures.live c.events_end_what_nobody_has.ensures most h after moment event reply come_to does ordinary sound none
