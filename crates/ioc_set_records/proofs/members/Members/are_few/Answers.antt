use Rattle.std.proofs.Common.{sym, ap, ◌∙◌, arith}
use Rattle.std.specs.FinMap.{len}
use Rattle.ioc_set_records.proofs.Ordered.{len_is}
use Rattle.ioc_set_records.proofs.members.Members.are_few.Goals as goal

pub returns : goal.returns
returns g c =
    let count = sym (len_is c.self.inside.slots.items c.self.invariant.ascending) ∙ ap (λ z. len z.records) c.self.view_is in
    omega (arith, count, c.self.inside.slots.ok.0, c.self.inside.slots.ok.1, c.self.inside.slots.small)
