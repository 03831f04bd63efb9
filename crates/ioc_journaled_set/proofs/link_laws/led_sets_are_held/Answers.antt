use Rattle.ioc_journaled_set.proofs.LedSets.{sets-lead}
use Rattle.ioc_journaled_set.proofs.link_laws.led_sets_are_held.Goals as goal

pub returns : goal.returns
returns g c = sets-lead g.row.D.Denot g.K.RecordKind.rules c.joined_are_held.ensures.moves c.parts_share_what_is_held.ensures.alike
