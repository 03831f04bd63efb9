use Rattle.ioc_set.proofs.HeldRecords.{sound_held, sound_live, sound_holder, sound_fewer, held_sound, none_may}
use Rattle.ioc_set.proofs.laws.held_records_are_sound.Goals as goal

pub returns-clause-held : goal.returns-clause-held
returns-clause-held g c h sound = sound_held g.K.RecordKind.rules h sound

pub returns-clause-live : goal.returns-clause-live
returns-clause-live g c h sound = sound_live g.K.RecordKind.rules h sound c.events_count_holders.ensures.live

pub returns-clause-fewer : goal.returns-clause-fewer
returns-clause-fewer g c h sound = sound_fewer g.K.RecordKind.rules h sound

pub returns-clause-sound : goal.returns-clause-sound
returns-clause-sound g c rs ds live waiting counts part held few add_up = held_sound g.K.RecordKind.rules g.met.K.RecordKind.lawful.missing_targets rs part live waiting held few ds counts add_up

pub returns-clause-holder : goal.returns-clause-holder
returns-clause-holder g c h n sound is = sound_holder g.K.RecordKind.rules h sound c.events_count_holders.ensures.live n is

pub returns-clause-may_be_one : goal.returns-clause-may_be_one
returns-clause-may_be_one g c h other none other_none = none_may h other none other_none
