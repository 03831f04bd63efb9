use Rattle.ioc_set.proofs.Calm.{sound_calm, calm_sound}
use Rattle.ioc_set.proofs.laws.calm_records_are_sound.Goals as goal

pub returns-clause-calm : goal.returns-clause-calm
returns-clause-calm g c h sound none = sound_calm g.K.RecordKind.rules c.events_count_holders.ensures.live h sound none

pub returns-clause-sound : goal.returns-clause-sound
returns-clause-sound g c rs ds counts part calm few add_up =
    calm_sound g.K.RecordKind.rules g.met.K.RecordKind.lawful.missing_targets rs part c.events_count_holders.ensures.first calm few ds counts add_up
