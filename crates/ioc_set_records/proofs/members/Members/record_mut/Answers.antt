use Rattle.std.proofs.Common.{◌≡◌, List, length, true, false, refl, sym, ap, subst, ◌∙◌, arith}
use Rattle.std.proofs.lemmas.List.{length-set}
use Rattle.ioc_set_records.specs.declared.slots.Slot.{Slot}
use Rattle.ioc_set_records.specs.Slots.{contents_of, AreAscending}
use Rattle.ioc_set_records.proofs.Seats.{there_not, seat_record, seat_ascending, seat_contents}
use Rattle.ioc_set_records.proofs.Twins.{marked_there, marked_kept, ascending_marked, contents_marked, length-marked, set_tracked}
use Rattle.ioc_set_records.proofs.members.Members.record_mut.Goals as goal

pub unreachable-requires : goal.unreachable-requires
unreachable-requires g c =
    there_not c.self.inside.slots.items c.deref.result.now c.args.self.now.records c.self.invariant.ascending (ap (λ z. z.records) c.self.view_is) c.deref.ensures.value c.args.number c.requires c.in_default.ensures.absent

pub index_mut-requires : goal.index_mut-requires
index_mut-requires g c =
    let there = marked_there c.self.inside.slots.items c.deref.result.now c.mark.new.slots.items c.args.number c.in-Some.place c.in-Some.place c.deref.ensures.value c.mark.ensures.slots c.in-Some.ensures.found in
    let l = there.0 in
    let e = c.mark.new.slots.ok.0 in
    omega arith

pub invariant_of-self-lent : goal.invariant_of-self-lent
invariant_of-self-lent g c = λ w.
    let ss = c.self.inside.slots.items in
    let ms = c.mark.new.slots.items in
    let place = c.in-Some.place in
    let s = c.index_mut.result.now in
    let there = marked_there ss c.deref.result.now ms c.args.number place place c.deref.ensures.value c.mark.ensures.slots c.in-Some.ensures.found in
    let up : AreAscending ms = subst (λ (z : List (Slot g.row.K.Denot g.row.D.Denot)). AreAscending z) (sym c.mark.ensures.slots) (ascending_marked ss place c.self.invariant.ascending) in
    let view : contents_of ms ≡ c.args.self.now = ap contents_of c.mark.ensures.slots ∙ contents_marked ss place ∙ c.self.view_is in
    let t : Slot g.row.K.Denot g.row.D.Denot = record s { fields = w } in
    let room = c.self.invariant.room in
    let same = c.mark.ensures.room in
    let len = length-set ms place t in
    let len_too = ap length c.mark.ensures.slots ∙ length-marked ss place in
    record {
      ascending = seat_ascending ms ms c.args.self.now.records up (ap (λ z. z.records) view) refl c.args.number place there s c.index_mut.ensures.value w;
      tracked = set_tracked ms c.mark.new.changed.items place s t c.mark.ensures.tracked there.0 c.index_mut.ensures.value refl
          (λ e. absurd (let h : true ≡ false = sym (marked_kept ss ms place s c.mark.ensures.slots there.0 c.index_mut.ensures.value) ∙ e in cc));
      room = omega arith;
    }

pub returns : goal.returns
returns g c =
    let ss = c.self.inside.slots.items in
    let ms = c.mark.new.slots.items in
    let place = c.in-Some.place in
    let s = c.index_mut.result.now in
    let there = marked_there ss c.deref.result.now ms c.args.number place place c.deref.ensures.value c.mark.ensures.slots c.in-Some.ensures.found in
    let up : AreAscending ms = subst (λ (z : List (Slot g.row.K.Denot g.row.D.Denot)). AreAscending z) (sym c.mark.ensures.slots) (ascending_marked ss place c.self.invariant.ascending) in
    let view : contents_of ms ≡ c.args.self.now = ap contents_of c.mark.ensures.slots ∙ contents_marked ss place ∙ c.self.view_is in (
      (
        refl,
        λ w. seat_contents ms ms c.args.self.now up view refl c.args.number place there s c.index_mut.ensures.value w,
      ),
      record {
        lends = tt;
        value = seat_record ms ms c.args.self.now.records up (ap (λ z. z.records) view) refl c.args.number place there g.K.RecordKind.rules s c.index_mut.ensures.value;
      },
    )
