use Rattle.std.proofs.Common.{ap}
use Rattle.ioc_set_records.proofs.Seats.{there_not, seat_base}
use Rattle.ioc_set_records.proofs.members.Members.base.Goals as goal

pub unreachable-requires : goal.unreachable-requires
unreachable-requires g c =
    there_not c.self.inside.slots.items c.deref.result.now c.args.self.now.records c.self.invariant.ascending (ap (λ z. z.records) c.self.view_is) c.deref.ensures.value c.args.number c.requires c.in_default.ensures.absent

pub returns : goal.returns
returns g c =
    seat_base c.self.inside.slots.items c.deref.result.now c.args.self.now c.self.invariant.ascending c.self.view_is c.deref.ensures.value c.args.number c.in-Some.place c.in-Some.ensures.found
    g.K.RecordKind.rules c.index.result.now c.index.ensures
