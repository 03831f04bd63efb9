use Rattle.std.proofs.Common.{ap, sym, ◌∙◌}
use Rattle.ioc_set_records.proofs.Seats.{has_by}
use Rattle.ioc_set_records.proofs.members.Members.has.Goals as goal

pub returns : goal.returns
returns g c = c.is_some.ensures ∙ sym (has_by c.self.inside.slots.items c.deref.result.now c.args.self.now.records c.self.invariant.ascending (ap (λ z. z.records) c.self.view_is) c.deref.ensures.value c.args.number c.place_of.result c.place_of.ensures.found c.place_of.ensures.absent)
