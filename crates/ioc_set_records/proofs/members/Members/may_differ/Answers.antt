use Rattle.std.proofs.Common.{ap, sym, ◌∙◌}
use Rattle.ioc_set_records.proofs.Seats.{there_not, seat_base, seat_record, seat_within}
use Rattle.ioc_set_records.proofs.members.Members.may_differ.Goals as goal

pub unreachable-requires : goal.unreachable-requires
unreachable-requires g c =
    there_not c.self.inside.slots.items c.deref.result.now c.args.self.now.records c.self.invariant.ascending (ap (λ z. z.records) c.self.view_is) c.deref.ensures.value c.args.number c.requires c.in_default.ensures.absent

-- The slot of the record isn't marked, so its base is its record.
pub returns : goal.returns
returns g c = λ e.
    let ss = c.self.inside.slots.items in
    let us = c.deref.result.now in
    let up = c.self.invariant.ascending in
    let i = c.in-Some.place in
    let s = c.index.result.now in
    let records = ap (λ z. z.records) c.self.view_is in
    let there = c.in-Some.ensures.found in
    let within = seat_within ss us c.args.self.now.records up records c.deref.ensures.value c.args.number i there in
    sym (seat_base ss us c.args.self.now up c.self.view_is c.deref.ensures.value c.args.number i there g.K.RecordKind.rules s c.index.ensures)
    ∙ c.self.invariant.tracked.same i s within c.index.ensures e
    ∙ seat_record ss us c.args.self.now.records up records c.deref.ensures.value c.args.number i there g.K.RecordKind.rules s c.index.ensures
