use Rattle.std.proofs.Common.{◌++◌, List, [], length, sym, ap, subst, ◌∙◌, arith, length-append}
use Rattle.std.specs.Prelude.{is_some, vec_capacity}
use Rattle.std.specs.FinMap.{len}
use Rattle.std.proofs.lemmas.List.Sorted.{length_permutation}
use Rattle.ioc_set_records.specs.declared.slots.Slot.{Slot}
use Rattle.ioc_set_records.specs.Edges.{slots_relinked}
use Rattle.ioc_set_records.specs.Slots.{AreAscending}
use Rattle.ioc_set_records.specs.Twins.{AreKept}
use Rattle.ioc_set_records.proofs.EdgeLaws.{length-relinked}
use Rattle.ioc_set_records.proofs.Seats.{there_not}
use Rattle.ioc_set_records.proofs.JoinedSets.{joined_ascending, joined_shared, joined_devices, joined_is_part, in_room}
use Rattle.ioc_set_records.proofs.Ordered.{len_is}
use Rattle.ioc_set_records.proofs.Twins.{alike_slots, like_itself, fold_up, refolded, fold_len, fold_folded, folded_kept, relinked_folded, append_folded, permuted_folded, base_is_records}
use Rattle.ioc_set_records.proofs.members.Members.join.Goals as goal

pub unreachable-requires : goal.unreachable-requires
unreachable-requires g c =
    there_not c.fold_slots.new.slots.items c.deref.result.now c.args.self.now.records (fold_up c.self.inside.slots.items c.fold_slots.new.slots.items c.self.invariant.ascending c.fold_slots.ensures.slots) (ap (λ z. z.records) (refolded c.self.inside.slots.items c.fold_slots.new.slots.items c.args.self.now c.self.view_is c.fold_slots.ensures.slots c.requires.folded)) c.deref.ensures.value c.args.number (ap is_some c.requires.free.1) c.in_default.ensures.absent

pub returns-clause-shared : goal.returns-clause-shared
returns-clause-shared g c =
    joined_shared g.K.RecordKind.rules g.met.K.RecordKind.lawful c.fold_slots.new.slots.items c.deref.result.now c.args.self.now.records (fold_up c.self.inside.slots.items c.fold_slots.new.slots.items c.self.invariant.ascending c.fold_slots.ensures.slots) (ap (λ z. z.records) (refolded c.self.inside.slots.items c.fold_slots.new.slots.items c.args.self.now c.self.view_is c.fold_slots.ensures.slots c.requires.folded)) c.deref.ensures.value c.args.number c.in-Some.place
    c.in-Some.ensures.found c.args.field c.args.link c.requires.free c.fold_slots-2.new.slots.items c.args.other.now.records (fold_up c.other.inside.slots.items c.fold_slots-2.new.slots.items c.other.invariant.ascending c.fold_slots-2.ensures.slots) (ap (λ z. z.records) (refolded c.other.inside.slots.items c.fold_slots-2.new.slots.items c.args.other.now c.other.view_is c.fold_slots-2.ensures.slots c.requires.other_folded)) c.requires.apart
    c.join_slots.new.slots.items (in_room g.K.RecordKind.rules c.fold_slots.new.slots.items c.move_in.new.slots.items c.fold_slots-2.new.slots.items c.in-Some.place c.args.field c.args.link c.join_slots.new.slots.items c.move_in.ensures.slots c.join_slots.ensures.permutation) c.join_slots.ensures.sorted

pub returns-clause-devices : goal.returns-clause-devices
returns-clause-devices g c =
    joined_devices g.K.RecordKind.rules g.met.K.RecordKind.lawful c.fold_slots.new.slots.items c.deref.result.now c.args.self.now.records (fold_up c.self.inside.slots.items c.fold_slots.new.slots.items c.self.invariant.ascending c.fold_slots.ensures.slots) (ap (λ z. z.records) (refolded c.self.inside.slots.items c.fold_slots.new.slots.items c.args.self.now c.self.view_is c.fold_slots.ensures.slots c.requires.folded)) c.deref.ensures.value c.args.number c.in-Some.place
    c.in-Some.ensures.found c.args.field c.args.link c.requires.free c.fold_slots-2.new.slots.items c.args.other.now.records (fold_up c.other.inside.slots.items c.fold_slots-2.new.slots.items c.other.invariant.ascending c.fold_slots-2.ensures.slots) (ap (λ z. z.records) (refolded c.other.inside.slots.items c.fold_slots-2.new.slots.items c.args.other.now c.other.view_is c.fold_slots-2.ensures.slots c.requires.other_folded)) c.requires.apart
    c.join_slots.new.slots.items (in_room g.K.RecordKind.rules c.fold_slots.new.slots.items c.move_in.new.slots.items c.fold_slots-2.new.slots.items c.in-Some.place c.args.field c.args.link c.join_slots.new.slots.items c.move_in.ensures.slots c.join_slots.ensures.permutation) c.join_slots.ensures.sorted
    c.args.self.now.devices c.args.other.now.devices (ap (λ z. z.devices) (refolded c.self.inside.slots.items c.fold_slots.new.slots.items c.args.self.now c.self.view_is c.fold_slots.ensures.slots c.requires.folded)) (ap (λ z. z.devices) (refolded c.other.inside.slots.items c.fold_slots-2.new.slots.items c.args.other.now c.other.view_is c.fold_slots-2.ensures.slots c.requires.other_folded))

pub returns-clause-part : goal.returns-clause-part
returns-clause-part g c =
    joined_is_part g.K.RecordKind.rules g.met.K.RecordKind.lawful c.fold_slots.new.slots.items c.deref.result.now c.args.self.now.records (fold_up c.self.inside.slots.items c.fold_slots.new.slots.items c.self.invariant.ascending c.fold_slots.ensures.slots) (ap (λ z. z.records) (refolded c.self.inside.slots.items c.fold_slots.new.slots.items c.args.self.now c.self.view_is c.fold_slots.ensures.slots c.requires.folded)) c.deref.ensures.value c.args.number c.in-Some.place
    c.in-Some.ensures.found c.args.field c.args.link c.requires.free c.fold_slots-2.new.slots.items c.args.other.now.records (fold_up c.other.inside.slots.items c.fold_slots-2.new.slots.items c.other.invariant.ascending c.fold_slots-2.ensures.slots) (ap (λ z. z.records) (refolded c.other.inside.slots.items c.fold_slots-2.new.slots.items c.args.other.now c.other.view_is c.fold_slots-2.ensures.slots c.requires.other_folded)) c.requires.apart
    c.join_slots.new.slots.items (in_room g.K.RecordKind.rules c.fold_slots.new.slots.items c.move_in.new.slots.items c.fold_slots-2.new.slots.items c.in-Some.place c.args.field c.args.link c.join_slots.new.slots.items c.move_in.ensures.slots c.join_slots.ensures.permutation) c.join_slots.ensures.sorted c.requires.one_part c.requires.other_part c.requires.to

pub fold_slots-requires-clause-like : goal.fold_slots-requires-clause-like
fold_slots-requires-clause-like g c =
    alike_slots g.K.RecordKind.rules c.self.inside.slots.items c.args.self.now c.self.invariant.ascending c.self.view_is (like_itself g.K.RecordKind.rules c.args.self.now c.requires.folded)

pub fold_slots-requires-2-clause-like : goal.fold_slots-requires-2-clause-like
fold_slots-requires-2-clause-like g c =
    alike_slots g.K.RecordKind.rules c.other.inside.slots.items c.args.other.now c.other.invariant.ascending c.other.view_is (like_itself g.K.RecordKind.rules c.args.other.now c.requires.other_folded)

pub place_of-requires : goal.place_of-requires
place_of-requires g c =
    subst (λ (z : List (Slot g.row.K.Denot g.row.D.Denot)). AreAscending z) (sym c.deref.ensures.value) (fold_up c.self.inside.slots.items c.fold_slots.new.slots.items c.self.invariant.ascending c.fold_slots.ensures.slots)

pub invariant_of-self : goal.invariant_of-self
invariant_of-self g c =
    let k = g.K.RecordKind.rules in
    let fs = c.fold_slots.new.slots.items in
    let ts = c.fold_slots-2.new.slots.items in
    let zs = slots_relinked k fs c.in-Some.place c.args.field c.args.link in
    let up = joined_ascending g.K.RecordKind.rules g.met.K.RecordKind.lawful c.fold_slots.new.slots.items c.deref.result.now c.args.self.now.records (fold_up c.self.inside.slots.items c.fold_slots.new.slots.items c.self.invariant.ascending c.fold_slots.ensures.slots) (ap (λ z. z.records) (refolded c.self.inside.slots.items c.fold_slots.new.slots.items c.args.self.now c.self.view_is c.fold_slots.ensures.slots c.requires.folded)) c.deref.ensures.value c.args.number c.in-Some.place
    c.in-Some.ensures.found c.args.field c.args.link c.requires.free c.fold_slots-2.new.slots.items c.args.other.now.records (fold_up c.other.inside.slots.items c.fold_slots-2.new.slots.items c.other.invariant.ascending c.fold_slots-2.ensures.slots) (ap (λ z. z.records) (refolded c.other.inside.slots.items c.fold_slots-2.new.slots.items c.args.other.now c.other.view_is c.fold_slots-2.ensures.slots c.requires.other_folded)) c.requires.apart
    c.join_slots.new.slots.items (in_room g.K.RecordKind.rules c.fold_slots.new.slots.items c.move_in.new.slots.items c.fold_slots-2.new.slots.items c.in-Some.place c.args.field c.args.link c.join_slots.new.slots.items c.move_in.ensures.slots c.join_slots.ensures.permutation) c.join_slots.ensures.sorted in
    let folded = permuted_folded (zs ++ ts) c.join_slots.new.slots.items (in_room g.K.RecordKind.rules c.fold_slots.new.slots.items c.move_in.new.slots.items c.fold_slots-2.new.slots.items c.in-Some.place c.args.field c.args.link c.join_slots.new.slots.items c.move_in.ensures.slots c.join_slots.ensures.permutation)
    (append_folded zs ts (relinked_folded k fs c.in-Some.place c.args.field c.args.link (fold_folded c.self.inside.slots.items fs c.fold_slots.ensures.slots)) (fold_folded c.other.inside.slots.items ts c.fold_slots-2.ensures.slots)) in
    let all = length_permutation (zs ++ ts) c.join_slots.new.slots.items (in_room g.K.RecordKind.rules c.fold_slots.new.slots.items c.move_in.new.slots.items c.fold_slots-2.new.slots.items c.in-Some.place c.args.field c.args.link c.join_slots.new.slots.items c.move_in.ensures.slots c.join_slots.ensures.permutation) in
    let both = length-append zs ts in
    let relinked_len = length-relinked k fs c.in-Some.place c.args.field c.args.link in
    let count = sym (len_is c.self.inside.slots.items c.self.invariant.ascending) ∙ ap (λ z. len z.records) c.self.view_is in
    let other_count = sym (len_is c.other.inside.slots.items c.other.invariant.ascending) ∙ ap (λ z. len z.records) c.other.view_is in
    let same = fold_len c.self.inside.slots.items fs c.fold_slots.ensures.slots in
    let other_same = fold_len c.other.inside.slots.items ts c.fold_slots-2.ensures.slots in
    folded_kept c.join_slots.new.slots.items c.move_in.new.changed.items (vec_capacity c.move_in.new.changed) up folded c.move_in.ensures.changed
    (omega (arith, all, both, relinked_len, count, other_count, same, other_same, c.requires.room, c.move_in.ensures.places_fit))

pub invariant_of-other : goal.invariant_of-other
invariant_of-other g c =
    subst (λ (z : List (Slot g.row.K.Denot g.row.D.Denot)). AreKept z c.fold_slots-2.new.changed.items (vec_capacity c.fold_slots-2.new.changed)) (sym c.join_slots.ensures.emptied)
    (folded_kept [] c.fold_slots-2.new.changed.items (vec_capacity c.fold_slots-2.new.changed) tt tt c.fold_slots-2.ensures.changed (omega arith))

pub returns-clause-base : goal.returns-clause-base
returns-clause-base g c =
    let k = g.K.RecordKind.rules in
    let fs = c.fold_slots.new.slots.items in
    let ts = c.fold_slots-2.new.slots.items in
    let zs = slots_relinked k fs c.in-Some.place c.args.field c.args.link in
    base_is_records c.join_slots.new.slots.items (permuted_folded (zs ++ ts) c.join_slots.new.slots.items (in_room g.K.RecordKind.rules c.fold_slots.new.slots.items c.move_in.new.slots.items c.fold_slots-2.new.slots.items c.in-Some.place c.args.field c.args.link c.join_slots.new.slots.items c.move_in.ensures.slots c.join_slots.ensures.permutation)
    (append_folded zs ts (relinked_folded k fs c.in-Some.place c.args.field c.args.link (fold_folded c.self.inside.slots.items fs c.fold_slots.ensures.slots)) (fold_folded c.other.inside.slots.items ts c.fold_slots-2.ensures.slots)))

pub move_in-requires : goal.move_in-requires
move_in-requires g c =
    let count = sym (len_is c.self.inside.slots.items c.self.invariant.ascending) ∙ ap (λ z. len z.records) c.self.view_is in
    let same = fold_len c.self.inside.slots.items c.fold_slots.new.slots.items c.fold_slots.ensures.slots in
    omega (arith, count, same, c.requires.room)

pub join_slots-requires-clause-room : goal.join_slots-requires-clause-room
join_slots-requires-clause-room g c =
    let count = sym (len_is c.self.inside.slots.items c.self.invariant.ascending) ∙ ap (λ z. len z.records) c.self.view_is in
    let other_count = sym (len_is c.other.inside.slots.items c.other.invariant.ascending) ∙ ap (λ z. len z.records) c.other.view_is in
    let same = fold_len c.self.inside.slots.items c.fold_slots.new.slots.items c.fold_slots.ensures.slots in
    let other_same = fold_len c.other.inside.slots.items c.fold_slots-2.new.slots.items c.fold_slots-2.ensures.slots in
    let moved = ap length c.move_in.ensures.slots in
    omega (arith, count, other_count, same, other_same, moved, c.requires.room, c.move_in.ensures.slots_fit)
