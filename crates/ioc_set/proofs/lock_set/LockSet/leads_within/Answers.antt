use Rattle.std.specs.Prelude.{◌↔◌, IsTrue, IsSome, ℕ, Contains}
use Rattle.std.specs.FinMap.{get}
use Rattle.std.proofs.Common.{subst}
use Rattle.ioc_dbcommon.specs.Links.{use_of, named_by}
use Rattle.ioc_set.specs.SetState.{SetState}
use Rattle.ioc_set.proofs.lock_set.LockSet.leads_within.Goals as goal

pub returns : goal.returns
returns g c =
    subst (λ (h : SetState g.row.K.Denot g.row.D.Denot). IsTrue c.leads_within.result ↔ ((t : ℕ) → Contains (named_by (use_of c.args.link.now)) t → IsSome (get h.records t))) c.self.view_is c.leads_within.ensures
