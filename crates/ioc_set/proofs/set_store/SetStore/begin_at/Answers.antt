use Rattle.std.proofs.Common.{refl}
use Rattle.ioc_store.specs.World.{begun, begun_at}
use Rattle.ioc_set.proofs.set_store.SetStore.begin_at.Goals as goal

pub returns-clause-world : goal.returns-clause-world
unfolding begun_at begun
returns-clause-world g c = rw (c.begin.ensures.moment, c.begin.ensures.calls, c.begin.ensures.items, c.begin.ensures.dropped, c.begin.ensures.live, c.begin.ensures.ended, c.begin.ensures.waiting) refl
