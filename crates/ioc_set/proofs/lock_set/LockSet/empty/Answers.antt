use Rattle.std.proofs.Common.{refl}
use Rattle.ioc_set.proofs.EmptyHistory.{were_none}
use Rattle.ioc_set.proofs.NothingHeld.{nothing_is_sound, nothing_is_like_its_base}
use Rattle.ioc_set.proofs.Counts.{none_add_up}
use Rattle.ioc_set.proofs.lock_set.LockSet.empty.Goals as goal

pub invariant_of-result : goal.invariant_of-result
invariant_of-result g c =
    let missing = g.met.K.RecordKind.lawful.missing_targets in
    let tally = c.default-tally.result in
    let none = c.default-tally.ensures in (
      nothing_is_sound g.K.RecordKind.rules missing c.new.result c.none.result tally tally c.new-2.result.items c.new.ensures (were_none c.none.result c.none.ensures) refl c.new-2.ensures.items
          (none_add_up tally none 0 refl),
      nothing_is_like_its_base g.K.RecordKind.rules missing c.new.result c.new.ensures,
    )
