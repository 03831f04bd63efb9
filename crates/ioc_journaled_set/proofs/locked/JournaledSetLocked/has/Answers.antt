use Rattle.std.proofs.Common.{sym, ◌∙◌, subst}
use Rattle.std.specs.Prelude.{Contains, IsTrue, ◌↔◌}
use Rattle.ioc_journaled_set.specs.Holding.{HeldView, numbers_of}
use Rattle.ioc_journaled_set.proofs.Keys.{key_there, there_key}
use Rattle.ioc_journaled_set.proofs.locked.JournaledSetLocked.has.Goals as goal

pub returns : goal.returns
returns g c =
    let records = c.self.inside.set.records in
    subst (λ (v : HeldView g.row.K.Denot g.row.D.Denot). IsTrue c.has.result ↔ Contains (numbers_of v) c.args.number) c.self.view_is
    ((λ is. there_key records c.args.number (sym c.has.ensures ∙ is)), (λ has. c.has.ensures ∙ key_there records c.args.number has))
