use Rattle.std.proofs.Common.{◌≡◌, ◌∙◌, subst}
use Rattle.ioc_journaled_set.specs.Holding.{HeldView}
use Rattle.ioc_journaled_set.specs.Changing.{size_of}
use Rattle.ioc_journaled_set.proofs.Keys.{keys_count}
use Rattle.ioc_journaled_set.proofs.changing.size.Goals as goal

pub returns-clause-size : goal.returns-clause-size
returns-clause-size g c = subst (λ (v : HeldView g.row.K.Denot g.row.D.Denot). c.len.result ≡ size_of v) c.held.view_is (c.len.ensures ∙ keys_count c.held.inside.set.records)
