use Rattle.std.proofs.lemmas.Result.{err_from_is_err_and}
use Rattle.std.proofs.Common.{◌≡◌, List, subst}
use Rattle.std.specs.Prelude.{All}
use Rattle.ioc_set_records.specs.Joined.{IsClosed}
use Rattle.ioc_set_records.specs.declared.loaded.Loaded.{Loaded}
use Rattle.ioc_set_records.specs.Linked.{links_in}
use Rattle.ioc_engine_core.specs.Loading.{IsIdle}
use Rattle.ioc_engine_core.specs.declared.starting.StartError.TheVariants.{NotAtRest, LinkLeaves}
use Rattle.ioc_engine_core.proofs.starting.start.Goals as goal

pub returns-in_err-parts-clause-rest : goal.returns-in_err-parts-clause-rest
returns-in_err-parts-clause-rest g c =
    let p = err_from_is_err_and c.from_residual.result c.from_residual.ensures.1 in
    rw (p.1, p.2) (subst (λ (s : List (Loaded g.row.K.Denot g.row.D.Denot)). c.in_err-parts.field-0.0 ≡ NotAtRest → All (λ (l : Loaded g.row.K.Denot g.row.D.Denot). IsIdle g.K.RecordKind.rules l.fields) s → ⊥) c.deref.ensures.value c.in_err-parts.ensures.rest)

pub returns-in_err-parts-clause-leaves : goal.returns-in_err-parts-clause-leaves
returns-in_err-parts-clause-leaves g c =
    let p = err_from_is_err_and c.from_residual.result c.from_residual.ensures.1 in
    rw (p.1, p.2) (subst (λ (s : List (Loaded g.row.K.Denot g.row.D.Denot)). c.in_err-parts.field-0.0 ≡ LinkLeaves → IsClosed (links_in g.K.RecordKind.rules s) → ⊥) c.deref.ensures.value c.in_err-parts.ensures.leaves)

pub holdings-requires-clause-idle : goal.holdings-requires-clause-idle
holdings-requires-clause-idle g c =
    subst (λ (s : List (Loaded g.row.K.Denot g.row.D.Denot)). All (λ (l : Loaded g.row.K.Denot g.row.D.Denot). IsIdle g.K.RecordKind.rules l.fields) s) c.deref.ensures.value c.in_ok-parts.ensures.idle

pub returns-clause-idle : goal.returns-clause-idle
returns-clause-idle g c =
    subst (λ (s : List (Loaded g.row.K.Denot g.row.D.Denot)). All (λ (l : Loaded g.row.K.Denot g.row.D.Denot). IsIdle g.K.RecordKind.rules l.fields) s) c.deref.ensures.value c.in_ok-parts.ensures.idle

pub returns-clause-closed : goal.returns-clause-closed
returns-clause-closed g c =
    subst (λ (s : List (Loaded g.row.K.Denot g.row.D.Denot)). IsClosed (links_in g.K.RecordKind.rules s)) c.deref.ensures.value c.in_ok-parts.ensures.closed
