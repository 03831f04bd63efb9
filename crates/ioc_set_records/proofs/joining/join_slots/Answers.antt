use Rattle.std.proofs.Common.{List, subst}
use Rattle.std.specs.List.Sorted.{IsPermutation}
use Rattle.ioc_set_records.specs.declared.slots.Slot.{Slot}
use Rattle.ioc_set_records.proofs.SetParts.{joined_by}
use Rattle.ioc_set_records.proofs.joining.join_slots.Goals as goal

pub returns-clause-permutation : goal.returns-clause-permutation
returns-clause-permutation g c =
    let is = joined_by g.K.RecordKind.rules c.args.slots.now.items c.args.place c.args.field c.args.link c.args.other.now.items c.append.new.self.items c.index_mut.result.now c.relink.new.slot
    c.requires.there c.in-Ok.ensures.items c.index_mut.ensures.value c.relink.ensures in
    subst (λ (z : List (Slot g.row.K.Denot g.row.D.Denot)). IsPermutation z c.sort.new.slots.items) is c.sort.ensures.permutation
