use Rattle.std.specs.Prelude.{◌≡◌, ◌↔◌, IsTrue, IsSome, ℕ, None}
use Rattle.std.specs.FinMap.{get}
use Rattle.std.proofs.Common.{subst}
use Rattle.ioc_set.specs.SetState.{SetState}
use Rattle.ioc_set.proofs.lock_set.LockSet.is_apart.Goals as goal

pub returns : goal.returns
returns g c =
    subst (λ (h : SetState g.row.K.Denot g.row.D.Denot). IsTrue c.is_apart.result ↔ ((q : ℕ) → IsSome (get c.args.self.now.records q) → get h.records q ≡ None)) c.other.view_is
    (subst (λ (h : SetState g.row.K.Denot g.row.D.Denot). IsTrue c.is_apart.result ↔ ((q : ℕ) → IsSome (get h.records q) → get c.other.inside.members.records q ≡ None)) c.self.view_is c.is_apart.ensures)
