use Rattle.ioc_set.proofs.NoneLive.{stays_so}
use Rattle.ioc_set.proofs.laws.none_live_stays_so.Goals as goal

pub returns : goal.returns
returns g c w after entry replay counted none begins =
    stays_so g.K.RecordKind.rules c.events_count_holders.ensures.live c.events_count_holders.ensures.events c.those_over_never_end.ensures.not_held w after entry replay counted none begins
