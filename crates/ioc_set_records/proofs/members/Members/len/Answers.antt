use Rattle.std.proofs.Common.{sym, ap, ◌∙◌}
use Rattle.std.specs.FinMap.{len}
use Rattle.ioc_set_records.proofs.Ordered.{len_is}
use Rattle.ioc_set_records.proofs.members.Members.len.Goals as goal

pub returns : goal.returns
returns g c = c.len.ensures ∙ c.self.inside.slots.ok.0 ∙ sym (len_is c.self.inside.slots.items c.self.invariant.ascending) ∙ ap (λ z. len z.records) c.self.view_is
