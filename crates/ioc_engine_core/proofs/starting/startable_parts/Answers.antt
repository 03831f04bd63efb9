use Rattle.std.proofs.Common.{◌≡◌, Option, false, true, subst, rules}
use Rattle.std.specs.Prelude.{IsTrue, IsSome}
use Rattle.ioc_engine_core.proofs.starting.startable_parts.Goals as goal

none_is_some : false ≡ true → ⊥
none_is_some e = cc

pub returns-in_default-found-clause-leaves : goal.returns-in_default-found-clause-leaves
returns-in_default-found-clause-leaves g c = λ e closed.
    none_is_some (subst (λ (o : Option _). IsSome o) c.in_default-found.is (c.in-Ok.ensures.within.1 closed))

pub returns-clause-idle : goal.returns-clause-idle
returns-clause-idle g c =
    let passed : IsTrue c.are_at_rest.result = search rules in
    c.are_at_rest.ensures.0 passed

pub returns-clause-closed : goal.returns-clause-closed
returns-clause-closed g c =
    let found : IsSome c.in-Ok.found = search rules in
    c.in-Ok.ensures.within.0 found
