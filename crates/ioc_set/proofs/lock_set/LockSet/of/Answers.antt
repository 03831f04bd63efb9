use Rattle.std.proofs.Common.{refl}
use Rattle.ioc_set.proofs.EmptyHistory.{were_none}
use Rattle.ioc_set.proofs.Linked.{calm_holds}
use Rattle.ioc_set.specs.Awaiting.{awaited}
use Rattle.ioc_set.proofs.AwaitedSums.{awaited-none}
use Rattle.ioc_set.proofs.Counts.{none_add_up}
use Rattle.ioc_set.proofs.lock_set.LockSet.of.Goals as goal

pub invariant_of-result : goal.invariant_of-result
invariant_of-result g c =
    calm_holds g.K.RecordKind.rules c.calm_records_are_sound.ensures.sound c.args.members c.none.result c.default-tally.result c.default-tally.result c.new.result.items
    (were_none c.none.result c.none.ensures) c.requires.base refl c.new.ensures.items c.requires.part c.requires.calm c.are_few.ensures
    (none_add_up c.default-tally.result c.default-tally.ensures (awaited g.K.RecordKind.rules c.args.members.records) (awaited-none g.K.RecordKind.rules c.args.members.records c.requires.idle))
