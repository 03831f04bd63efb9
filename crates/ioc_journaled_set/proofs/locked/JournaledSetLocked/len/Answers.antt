use Rattle.std.proofs.Common.{◌≡◌, length, ◌∙◌, subst}
use Rattle.ioc_journaled_set.specs.Holding.{HeldView, numbers_of}
use Rattle.ioc_journaled_set.proofs.Keys.{keys_count}
use Rattle.ioc_journaled_set.proofs.locked.JournaledSetLocked.len.Goals as goal

pub returns : goal.returns
returns g c = subst (λ (v : HeldView g.row.K.Denot g.row.D.Denot). c.len.result ≡ length (numbers_of v)) c.self.view_is (c.len.ensures ∙ keys_count c.self.inside.set.records)
