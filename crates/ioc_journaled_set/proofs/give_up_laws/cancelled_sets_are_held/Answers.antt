use Rattle.ioc_journaled_set.proofs.GiveUpGiving.{sets-give-up}
use Rattle.ioc_journaled_set.proofs.give_up_laws.cancelled_sets_are_held.Goals as goal

pub returns : goal.returns
returns g c =
    sets-give-up g.K.RecordKind.rules g.row.D.Denot g.met.K.RecordKind.lawful c.lists_leave_sound.ensures.after c.changes_of_all_are_held.ensures.cancel c.changes_of_all_are_held.ensures.begins
    c.parts_share_what_is_held.ensures.alike
