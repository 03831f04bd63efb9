use Rattle.std.proofs.Common.{refl}
use Rattle.ioc_store.specs.World.{begun}
use Rattle.ioc_store.proofs.one_map.OneMap.begin.Goals as goal

pub returns-clause-world : goal.returns-clause-world
unfolding begun
returns-clause-world g c = rw (c.begin.ensures.moment, c.begin.ensures.calls, c.begin.ensures.items, c.begin.ensures.dropped, c.begin.ensures.live, c.begin.ensures.ended, c.begin.ensures.waiting) refl
