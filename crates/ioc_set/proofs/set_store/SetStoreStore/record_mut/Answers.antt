use Rattle.std.proofs.Common.{refl}
use Rattle.ioc_store.specs.World.{at}
use Rattle.ioc_set.proofs.set_store.SetStoreStore.record_mut.Goals as goal

pub returns : goal.returns
unfolding at
returns g c = ((refl, λ w. refl), record { lends = tt; value = c.record_mut.ensures.value })
