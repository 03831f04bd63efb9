use Rattle.std.proofs.Common.{Option, None, refl, sym, ap, subst, arith}
use Rattle.std.proofs.lemmas.List.{length-set}
use Rattle.ioc_set_records.specs.declared.slots.Slot.{Slot}
use Rattle.ioc_set_records.proofs.Twins.{set_tracked}
use Rattle.ioc_device.specs.declared.Answer.TheVariants.{Fault}
use Rattle.ioc_set_records.specs.Answers.{Gives}
use Rattle.ioc_set_records.proofs.Seats.{seat_within, refit, refit_leaves, refit_base, refit_ascending, device_of_seat, no_device, fitted}
use Rattle.ioc_set_records.proofs.members.Members.device_gives.Goals as goal

pub returns-in_default-clause-gives : goal.returns-in_default-clause-gives
returns-in_default-clause-gives g c =
    let P : Option g.row.D.Denot → Type 0 = λ o. Gives g.D.Device.gives o c.args.ask.now c.args.moment Fault None in
    let none = no_device c.self.inside.slots.items c.deref.result.now c.args.self.now c.self.invariant.ascending c.self.view_is c.deref.ensures.value c.args.number c.in_default.ensures.absent in
    (None, subst P (sym none) (refl, refl), refl)

pub invariant_of-self : goal.invariant_of-self
invariant_of-self g c =
    let ss = c.self.inside.slots.items in
    let s = c.index_mut.result.now in
    let place = c.in-Some.place in
    let l = seat_within ss c.deref.result.now c.args.self.now.records c.self.invariant.ascending (ap (λ z. z.records) c.self.view_is) c.deref.ensures.value c.args.number place c.in-Some.ensures.found in
    let t : Slot g.row.K.Denot g.row.D.Denot = record s { device = c.gives.new.device } in
    let len = length-set ss place t in
    let room = c.self.invariant.room in
    record {
      ascending = refit_ascending ss c.deref.result.now c.args.self.now.records c.self.invariant.ascending (ap (λ z. z.records) c.self.view_is) c.deref.ensures.value c.args.number place c.in-Some.ensures.found
          s c.index_mut.ensures.value c.gives.new.device;
      tracked = set_tracked ss c.self.inside.changed.items place s t c.self.invariant.tracked l c.index_mut.ensures.value refl (λ e. c.self.invariant.tracked.same place s l c.index_mut.ensures.value e);
      room = omega arith;
    }

pub returns-clause-gives : goal.returns-clause-gives
returns-clause-gives g c =
    let P : Option g.row.D.Denot → Type 0 = λ o. Gives g.D.Device.gives o c.args.ask.now c.args.moment c.gives.result c.gives.new.device in
    let own = device_of_seat c.self.inside.slots.items c.deref.result.now c.args.self.now c.self.invariant.ascending c.self.view_is c.deref.ensures.value c.args.number c.in-Some.place c.in-Some.ensures.found c.index_mut.result.now c.index_mut.ensures.value in (
      c.gives.new.device,
      subst P (sym own) c.gives.ensures,
      refit c.self.inside.slots.items c.deref.result.now c.args.self.now c.self.invariant.ascending c.self.view_is c.deref.ensures.value c.args.number c.in-Some.place c.in-Some.ensures.found c.index_mut.result.now c.index_mut.ensures.value c.gives.new.device
          (fitted g.D.Device.gives c.index_mut.result.now.device c.gives.new.device c.args.ask.now c.args.moment c.gives.result c.gives.ensures),
    )

pub returns-clause-records : goal.returns-clause-records
returns-clause-records g c =
    refit_leaves c.self.inside.slots.items c.deref.result.now c.args.self.now c.self.invariant.ascending c.self.view_is c.deref.ensures.value c.args.number c.in-Some.place c.in-Some.ensures.found c.index_mut.result.now c.index_mut.ensures.value c.gives.new.device

pub returns-clause-base : goal.returns-clause-base
returns-clause-base g c =
    refit_base c.self.inside.slots.items c.deref.result.now c.args.self.now c.self.invariant.ascending c.self.view_is c.deref.ensures.value c.args.number c.in-Some.place c.in-Some.ensures.found c.index_mut.result.now c.index_mut.ensures.value c.gives.new.device
