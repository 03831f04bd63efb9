use Rattle.std.proofs.Common.{◌∙◌, arith}
use Rattle.std.proofs.lemmas.List.{length-set}
use Rattle.ioc_values.proofs.Pushed.{padded_more}
use Rattle.ioc_values.proofs.short.Short.push_cut.Goals as goal

pub invariant_of-self : goal.invariant_of-self
invariant_of-self g c =
    let i = c.self.inside in
    (omega arith, length-set i.bytes i.len c.args.b ∙ c.self.invariant.1, padded_more g.row.CAP i.len c.args.b i.bytes c.if-self.true c.self.invariant.2)
