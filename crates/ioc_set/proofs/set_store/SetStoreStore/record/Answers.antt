use Rattle.ioc_store.specs.World.{at}
use Rattle.ioc_set.proofs.set_store.SetStoreStore.record.Goals as goal

pub returns : goal.returns
unfolding at
returns g c = c.record.ensures
