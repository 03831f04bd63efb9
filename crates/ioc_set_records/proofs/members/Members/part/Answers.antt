use Rattle.std.proofs.Common.{◌≡◌, List, sym, ap, subst, ◌∙◌, arith}
use Rattle.std.specs.Prelude.{is_some, vec_capacity}
use Rattle.ioc_set_records.specs.declared.slots.Slot.{Slot}
use Rattle.ioc_set_records.specs.Edges.{slots_relinked}
use Rattle.ioc_set_records.specs.Slots.{contents_of, records_of, AreAscending}
use Rattle.ioc_set_records.specs.Twins.{AreFolded, AreKept}
use Rattle.ioc_set_records.proofs.EdgeLaws.{length-relinked}
use Rattle.ioc_set_records.proofs.Seats.{there_not}
use Rattle.std.specs.FinMap.{len}
use Rattle.ioc_set_records.proofs.Ordered.{len_is}
use Rattle.ioc_set_records.proofs.SetParts.{few_stay, stay_folded, rest_folded}
use Rattle.ioc_set_records.proofs.FallsApart.{zs_closed, link_field, stay_rises, rest_rises, shared, devices, own, stay_is_part, rest_is_part}
use Rattle.ioc_set_records.proofs.Twins.{where_refused, alike_slots, like_itself, fold_up, refolded, fold_len, fold_folded, folded_kept, relinked_folded, base_is_records}
use Rattle.ioc_set_records.proofs.members.Members.part.Given.{Over}
use Rattle.ioc_set_records.proofs.members.Members.part.Goals.{After-part_slots}
use Rattle.ioc_set_records.proofs.members.Members.part.Goals as goal

-- What is known of the slots once they are folded and one link of them is set.
module _ (g : Over) (c : After-part_slots g) where
  up : AreAscending c.fold_slots.new.slots.items
  up = fold_up c.self.inside.slots.items c.fold_slots.new.slots.items c.self.invariant.ascending c.fold_slots.ensures.slots

  records_are : records_of c.fold_slots.new.slots.items ≡ c.args.self.now.records
  records_are = ap (λ z. z.records) (refolded c.self.inside.slots.items c.fold_slots.new.slots.items c.args.self.now c.self.view_is c.fold_slots.ensures.slots c.requires.folded)

  abbrev zs : List (Slot g.row.K.Denot g.row.D.Denot)
  zs = slots_relinked g.K.RecordKind.rules c.fold_slots.new.slots.items c.in-Some.place c.args.field c.args.link

  zs_folded : AreFolded zs
  zs_folded = relinked_folded g.K.RecordKind.rules c.fold_slots.new.slots.items c.in-Some.place c.args.field c.args.link (fold_folded c.self.inside.slots.items c.fold_slots.new.slots.items c.fold_slots.ensures.slots)

pub unreachable-requires : goal.unreachable-requires
unreachable-requires g c =
    there_not c.fold_slots.new.slots.items c.deref.result.now c.args.self.now.records (fold_up c.self.inside.slots.items c.fold_slots.new.slots.items c.self.invariant.ascending c.fold_slots.ensures.slots) (ap (λ z. z.records) (refolded c.self.inside.slots.items c.fold_slots.new.slots.items c.args.self.now c.self.view_is c.fold_slots.ensures.slots c.requires.folded)) c.deref.ensures.value c.args.number (ap is_some c.requires.field.1) c.in_default.ensures.absent

pub part_slots-requires-clause-closed : goal.part_slots-requires-clause-closed
part_slots-requires-clause-closed g c =
    zs_closed g.K.RecordKind.rules g.met.K.RecordKind.lawful c.fold_slots.new.slots.items c.deref.result.now c.args.self.now.records (fold_up c.self.inside.slots.items c.fold_slots.new.slots.items c.self.invariant.ascending c.fold_slots.ensures.slots) (ap (λ z. z.records) (refolded c.self.inside.slots.items c.fold_slots.new.slots.items c.args.self.now c.self.view_is c.fold_slots.ensures.slots c.requires.folded)) c.deref.ensures.value c.args.number c.in-Some.place
    c.in-Some.ensures.found c.args.field c.args.link c.requires.field c.requires.within c.requires.one_part

pub returns-clause-shared : goal.returns-clause-shared
returns-clause-shared g c =
    shared g.K.RecordKind.rules g.met.K.RecordKind.lawful c.fold_slots.new.slots.items c.deref.result.now c.args.self.now.records (fold_up c.self.inside.slots.items c.fold_slots.new.slots.items c.self.invariant.ascending c.fold_slots.ensures.slots) (ap (λ z. z.records) (refolded c.self.inside.slots.items c.fold_slots.new.slots.items c.args.self.now c.self.view_is c.fold_slots.ensures.slots c.requires.folded)) c.deref.ensures.value c.args.number c.in-Some.place
    c.in-Some.ensures.found c.args.field c.args.link c.requires.field c.requires.within c.requires.one_part c.part_slots.new.slots.items c.in_ok-rest.rest.items c.in_ok-rest.ensures.ok

pub part_slots-requires-clause-field : goal.part_slots-requires-clause-field
part_slots-requires-clause-field g c =
    link_field g.K.RecordKind.rules g.met.K.RecordKind.lawful c.fold_slots.new.slots.items c.deref.result.now c.args.self.now.records (fold_up c.self.inside.slots.items c.fold_slots.new.slots.items c.self.invariant.ascending c.fold_slots.ensures.slots) (ap (λ z. z.records) (refolded c.self.inside.slots.items c.fold_slots.new.slots.items c.args.self.now c.self.view_is c.fold_slots.ensures.slots c.requires.folded)) c.deref.ensures.value c.args.number
    c.in-Some.place c.in-Some.ensures.found c.args.field c.args.link c.requires.field

pub returns-clause-devices : goal.returns-clause-devices
returns-clause-devices g c =
    devices g.K.RecordKind.rules g.met.K.RecordKind.lawful c.fold_slots.new.slots.items c.deref.result.now c.args.self.now.records (fold_up c.self.inside.slots.items c.fold_slots.new.slots.items c.self.invariant.ascending c.fold_slots.ensures.slots) (ap (λ z. z.records) (refolded c.self.inside.slots.items c.fold_slots.new.slots.items c.args.self.now c.self.view_is c.fold_slots.ensures.slots c.requires.folded)) c.deref.ensures.value c.args.number c.in-Some.place
    c.in-Some.ensures.found c.args.field c.args.link c.requires.field c.requires.within c.requires.one_part c.part_slots.new.slots.items c.in_ok-rest.rest.items c.in_ok-rest.ensures.ok
    c.args.self.now.devices (ap (λ z. z.devices) (refolded c.self.inside.slots.items c.fold_slots.new.slots.items c.args.self.now c.self.view_is c.fold_slots.ensures.slots c.requires.folded))

pub returns-clause-own : goal.returns-clause-own
returns-clause-own g c =
    own g.K.RecordKind.rules g.met.K.RecordKind.lawful c.fold_slots.new.slots.items c.deref.result.now c.args.self.now.records (fold_up c.self.inside.slots.items c.fold_slots.new.slots.items c.self.invariant.ascending c.fold_slots.ensures.slots) (ap (λ z. z.records) (refolded c.self.inside.slots.items c.fold_slots.new.slots.items c.args.self.now c.self.view_is c.fold_slots.ensures.slots c.requires.folded)) c.deref.ensures.value c.args.number c.in-Some.place
    c.in-Some.ensures.found c.args.field c.args.link c.requires.field c.requires.within c.requires.one_part c.part_slots.new.slots.items c.in_ok-rest.rest.items c.in_ok-rest.ensures.ok

pub returns-clause-stay : goal.returns-clause-stay
returns-clause-stay g c =
    stay_is_part g.K.RecordKind.rules g.met.K.RecordKind.lawful c.fold_slots.new.slots.items c.deref.result.now c.args.self.now.records (fold_up c.self.inside.slots.items c.fold_slots.new.slots.items c.self.invariant.ascending c.fold_slots.ensures.slots) (ap (λ z. z.records) (refolded c.self.inside.slots.items c.fold_slots.new.slots.items c.args.self.now c.self.view_is c.fold_slots.ensures.slots c.requires.folded)) c.deref.ensures.value c.args.number c.in-Some.place
    c.in-Some.ensures.found c.args.field c.args.link c.requires.field c.requires.within c.requires.one_part c.part_slots.new.slots.items c.in_ok-rest.rest.items c.in_ok-rest.ensures.ok

pub returns-clause-rest : goal.returns-clause-rest
returns-clause-rest g c =
    rest_is_part g.K.RecordKind.rules g.met.K.RecordKind.lawful c.fold_slots.new.slots.items c.deref.result.now c.args.self.now.records (fold_up c.self.inside.slots.items c.fold_slots.new.slots.items c.self.invariant.ascending c.fold_slots.ensures.slots) (ap (λ z. z.records) (refolded c.self.inside.slots.items c.fold_slots.new.slots.items c.args.self.now c.self.view_is c.fold_slots.ensures.slots c.requires.folded)) c.deref.ensures.value c.args.number c.in-Some.place
    c.in-Some.ensures.found c.args.field c.args.link c.requires.field c.requires.within c.requires.one_part c.part_slots.new.slots.items c.in_ok-rest.rest.items c.in_ok-rest.ensures.ok

pub fold_slots-requires-clause-like : goal.fold_slots-requires-clause-like
fold_slots-requires-clause-like g c =
    alike_slots g.K.RecordKind.rules c.self.inside.slots.items c.args.self.now c.self.invariant.ascending c.self.view_is (like_itself g.K.RecordKind.rules c.args.self.now c.requires.folded)

pub place_of-requires : goal.place_of-requires
place_of-requires g c =
    subst (λ (z : List (Slot g.row.K.Denot g.row.D.Denot)). AreAscending z) (sym c.deref.ensures.value) (fold_up c.self.inside.slots.items c.fold_slots.new.slots.items c.self.invariant.ascending c.fold_slots.ensures.slots)

pub part_slots-requires-clause-ascending : goal.part_slots-requires-clause-ascending
part_slots-requires-clause-ascending g c = fold_up c.self.inside.slots.items c.fold_slots.new.slots.items c.self.invariant.ascending c.fold_slots.ensures.slots

pub invariant_of-self : goal.invariant_of-self
invariant_of-self g c =
    let ss = c.self.inside.slots.items in
    let fs = c.fold_slots.new.slots.items in
    let len = fold_len ss fs c.fold_slots.ensures.slots in
    let room = c.self.invariant.room in
    let same = c.fold_slots.ensures.room in
    subst (λ (z : List (Slot g.row.K.Denot g.row.D.Denot)). AreKept z c.fold_slots.new.changed.items (vec_capacity c.fold_slots.new.changed)) (sym c.in_err-rest.ensures.err)
    (folded_kept fs c.fold_slots.new.changed.items (vec_capacity c.fold_slots.new.changed) (fold_up ss fs c.self.invariant.ascending c.fold_slots.ensures.slots) (fold_folded ss fs c.fold_slots.ensures.slots)
    c.fold_slots.ensures.changed (omega arith))

pub returns-in_err-rest-clause-err : goal.returns-in_err-rest-clause-err
returns-in_err-rest-clause-err g c =
    where_refused c.from_residual.result
    (ap contents_of c.in_err-rest.ensures.err ∙ refolded c.self.inside.slots.items c.fold_slots.new.slots.items c.args.self.now c.self.view_is c.fold_slots.ensures.slots c.requires.folded)

pub invariant_of-result : goal.invariant_of-result
invariant_of-result g c =
    let at = (goal.at.invariant_of-result g c).After-part_slots in
    folded_kept c.in_ok-rest.rest.items c.in_ok-rest.places.items (vec_capacity c.in_ok-rest.places)
    (rest_rises g.K.RecordKind.rules g.met.K.RecordKind.lawful c.fold_slots.new.slots.items c.deref.result.now c.args.self.now.records (up g at) (records_are g at) c.deref.ensures.value c.args.number c.in-Some.place
    c.in-Some.ensures.found c.args.field c.args.link c.requires.field c.requires.within c.requires.one_part c.part_slots.new.slots.items c.in_ok-rest.rest.items c.in_ok-rest.ensures.ok)
    (rest_folded g.K.RecordKind.rules (zs g at) c.in-Some.place c.part_slots.new.slots.items c.in_ok-rest.rest.items c.in_ok-rest.ensures.ok (zs_folded g at)) c.in_ok-rest.ensures.room.0 c.in_ok-rest.ensures.room.1

pub invariant_of-self-2 : goal.invariant_of-self-2
invariant_of-self-2 g c =
    let k = g.K.RecordKind.rules in
    let at = (goal.at.invariant_of-self-2 g c).After-part_slots in
    let rises = stay_rises k g.met.K.RecordKind.lawful c.fold_slots.new.slots.items c.deref.result.now c.args.self.now.records (up g at) (records_are g at) c.deref.ensures.value c.args.number c.in-Some.place
    c.in-Some.ensures.found c.args.field c.args.link c.requires.field c.requires.within c.requires.one_part c.part_slots.new.slots.items c.in_ok-rest.rest.items c.in_ok-rest.ensures.ok in
    let few = few_stay k (zs g at) c.in-Some.place c.part_slots.new.slots.items c.in_ok-rest.rest.items c.in_ok-rest.ensures.ok in
    let relinked_len = length-relinked k c.fold_slots.new.slots.items c.in-Some.place c.args.field c.args.link in
    let len = fold_len c.self.inside.slots.items c.fold_slots.new.slots.items c.fold_slots.ensures.slots in
    let room = c.self.invariant.room in
    let same = c.fold_slots.ensures.room in
    folded_kept c.part_slots.new.slots.items c.fold_slots.new.changed.items (vec_capacity c.fold_slots.new.changed) rises
    (stay_folded k (zs g at) c.in-Some.place c.part_slots.new.slots.items c.in_ok-rest.rest.items c.in_ok-rest.ensures.ok (zs_folded g at)) c.fold_slots.ensures.changed (omega arith)

pub returns-clause-base : goal.returns-clause-base
returns-clause-base g c =
    let at = (goal.at.returns-clause-base g c).After-part_slots in
    base_is_records c.part_slots.new.slots.items
    (stay_folded g.K.RecordKind.rules (zs g at) c.in-Some.place c.part_slots.new.slots.items c.in_ok-rest.rest.items c.in_ok-rest.ensures.ok (zs_folded g at))

pub returns-clause-rest_base : goal.returns-clause-rest_base
returns-clause-rest_base g c =
    let at = (goal.at.returns-clause-rest_base g c).After-part_slots in
    base_is_records c.in_ok-rest.rest.items
    (rest_folded g.K.RecordKind.rules (zs g at) c.in-Some.place c.part_slots.new.slots.items c.in_ok-rest.rest.items c.in_ok-rest.ensures.ok (zs_folded g at))

pub returns-clause-fewer : goal.returns-clause-fewer
returns-clause-fewer g c =
    let k = g.K.RecordKind.rules in
    let at = (goal.at.returns-clause-fewer g c).After-part_slots in
    let rises = stay_rises k g.met.K.RecordKind.lawful c.fold_slots.new.slots.items c.deref.result.now c.args.self.now.records (up g at) (records_are g at) c.deref.ensures.value c.args.number c.in-Some.place
    c.in-Some.ensures.found c.args.field c.args.link c.requires.field c.requires.within c.requires.one_part c.part_slots.new.slots.items c.in_ok-rest.rest.items c.in_ok-rest.ensures.ok in
    let few = few_stay k (zs g at) c.in-Some.place c.part_slots.new.slots.items c.in_ok-rest.rest.items c.in_ok-rest.ensures.ok in
    let relinked_len = length-relinked k c.fold_slots.new.slots.items c.in-Some.place c.args.field c.args.link in
    let same = fold_len c.self.inside.slots.items c.fold_slots.new.slots.items c.fold_slots.ensures.slots in
    let before = sym (len_is c.self.inside.slots.items c.self.invariant.ascending) ∙ ap (λ z. len z.records) c.self.view_is in
    let after = len_is c.part_slots.new.slots.items rises in
    omega (arith, few, relinked_len, same, before, after)
