use Rattle.std.proofs.Common.{ℕ, length, sym, subst}
use Rattle.rec_types.specs.Record.{Record}
use Rattle.ioc_store.specs.World.{World}
use Rattle.ioc_engine_core.specs.Loading.{loaded_world}
use Rattle.ioc_engine.specs.Types.{AreTypesOf}
use Rattle.ioc_engine.proofs.LoadedTypes.{loaded_types}
use Rattle.ioc_engine.proofs.engine.Engine.start.Goals as goal

pub new-requires : goal.new-requires
new-requires g c =
    let seed = c.args.seed in
    let types = seed.lookup.types.items in
    let loaded = loaded_types seed.records.items types seed.types in
    record { types = subst (λ (base : World Record). AreTypesOf base (length types) types) (sym c.requires.named.base_is) (subst (λ (n : ℕ). AreTypesOf (loaded_world seed.records.items) n types) (sym loaded.many) loaded) }

pub returns-in-Ok-request_starters-clause-pini : goal.returns-in-Ok-request_starters-clause-pini
returns-in-Ok-request_starters-clause-pini g c = rw (sym c.as_slice.ensures.value) c.in-Ok-request_starters.ensures.pini
