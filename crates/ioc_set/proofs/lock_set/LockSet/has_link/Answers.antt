use Rattle.std.specs.Prelude.{◌↔◌, IsTrue}
use Rattle.std.proofs.Common.{subst}
use Rattle.ioc_set_records.specs.Joined.{HasLink}
use Rattle.ioc_set.specs.SetState.{SetState}
use Rattle.ioc_set.proofs.lock_set.LockSet.has_link.Goals as goal

pub returns : goal.returns
returns g c =
    subst (λ (h : SetState g.row.K.Denot g.row.D.Denot). IsTrue c.has_link.result ↔ HasLink g.K.RecordKind.rules h.records c.args.number c.args.field) c.self.view_is c.has_link.ensures
