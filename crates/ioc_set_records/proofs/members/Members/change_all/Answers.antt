use Rattle.std.proofs.Common.{◌≡◌, ℕ, List, length, map, sym, ap, subst, ◌∙◌, arith}
use Rattle.std.specs.Prelude.{vec_capacity}
use Rattle.std.specs.List.{range_with_len}
use Rattle.std.proofs.Math.ListN.{length-map}
use Rattle.ioc_set_records.specs.Twins.{AreKept, AreTracked}
use Rattle.ioc_set_records.specs.declared.slots.Slot.{Slot}
use Rattle.ioc_set_records.specs.Changed.{all_changed, slot_changed}
use Rattle.ioc_set_records.specs.Slots.{records_of, devices_of, bases_of}
use Rattle.ioc_set_records.proofs.AllChanged.{ascending_changed, records_changed, devices_stay, bases_stay, changed_tracked, whole_list}
use Rattle.ioc_set_records.proofs.members.Members.change_all.Goals as goal

pub invariant_of-self : goal.invariant_of-self
invariant_of-self g c =
    let f = g.C.Change.changed c.args.by.now in
    let ss = c.self.inside.slots.items in
    let is = whole_list f ss c.deref_mut.result.now c.change_slots.new.slots c.self.inside.slots.len c.deref_mut.ensures.value c.change_slots.ensures c.self.inside.slots.ok.0 in
    let places : c.list_all.new.changed.items ≡ range_with_len 0 (length ss) = c.list_all.ensures.places ∙ ap (range_with_len 0) (c.len.ensures ∙ c.self.inside.slots.ok.0) in
    let room = c.self.invariant.room in
    let same = c.list_all.ensures.room in
    let len = length-map ss (slot_changed f) in
    subst (λ (z : List (Slot g.row.K.Denot g.row.D.Denot)). AreKept z c.list_all.new.changed.items (vec_capacity c.list_all.new.changed)) (sym is)
    (record {
      ascending = ascending_changed f ss c.self.invariant.ascending;
      tracked = subst (λ (p : List ℕ). AreTracked (map (slot_changed f) ss) p) (sym places) (changed_tracked f ss);
      room = omega arith;
    })

pub returns-clause-records : goal.returns-clause-records
returns-clause-records g c =
    let f = g.C.Change.changed c.args.by.now in
    let ss = c.self.inside.slots.items in
    let is = whole_list f ss c.deref_mut.result.now c.change_slots.new.slots c.self.inside.slots.len c.deref_mut.ensures.value c.change_slots.ensures c.self.inside.slots.ok.0 in
    ap records_of is ∙ records_changed f ss c.self.invariant.ascending ∙ ap (λ z. all_changed f z.records) c.self.view_is

pub returns-clause-devices : goal.returns-clause-devices
returns-clause-devices g c =
    let f = g.C.Change.changed c.args.by.now in
    let ss = c.self.inside.slots.items in
    let is = whole_list f ss c.deref_mut.result.now c.change_slots.new.slots c.self.inside.slots.len c.deref_mut.ensures.value c.change_slots.ensures c.self.inside.slots.ok.0 in
    ap devices_of is ∙ devices_stay f ss c.self.invariant.ascending ∙ ap (λ z. z.devices) c.self.view_is

pub returns-clause-base : goal.returns-clause-base
returns-clause-base g c =
    let f = g.C.Change.changed c.args.by.now in
    let ss = c.self.inside.slots.items in
    let is = whole_list f ss c.deref_mut.result.now c.change_slots.new.slots c.self.inside.slots.len c.deref_mut.ensures.value c.change_slots.ensures c.self.inside.slots.ok.0 in
    ap bases_of is ∙ bases_stay f ss ∙ ap (λ z. z.base) c.self.view_is
