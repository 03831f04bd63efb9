use Rattle.ioc_journaled_set.proofs.PartedSets.{sets-part}
use Rattle.ioc_journaled_set.proofs.link_laws.parted_sets_are_held.Goals as goal

pub returns : goal.returns
returns g c = sets-part g.K.RecordKind.rules g.row.D.Denot c.parts_are_held.ensures.link c.parts_share_what_is_held.ensures.alike
