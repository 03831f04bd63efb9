use Rattle.ioc_set.proofs.Sounding.{sound_after, sound_folded}
use Rattle.ioc_set.proofs.laws.events_leave_sound.Goals as goal

pub returns-clause-event : goal.returns-clause-event
returns-clause-event g c h entry devices sound room tells =
    sound_after g.K.RecordKind.rules c.rules_are_steps.ensures.allowed c.rules_are_steps.ensures.alone c.events_keep_links.ensures c.events_leave_settled.ensures.event c.events_leave_none_ready.ensures
    c.events_count_holders.ensures.event c.events_leave_holders_awaiting.ensures.event c.tallies_count_each_request.ensures.each c.tallies_add_up.ensures.tallies c.events_count_awaited.ensures h entry devices sound room tells

pub returns-clause-folded : goal.returns-clause-folded
returns-clause-folded g c h sound = sound_folded g.K.RecordKind.rules h sound
