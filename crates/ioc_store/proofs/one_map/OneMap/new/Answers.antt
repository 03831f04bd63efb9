use Rattle.std.proofs.Common.{refl}
use Rattle.ioc_store.specs.World.{begun, begun_at}
use Rattle.ioc_store.proofs.one_map.OneMap.new.Goals as goal

pub returns-clause-fresh : goal.returns-clause-fresh
unfolding begun_at begun
returns-clause-fresh g c = rw (c.begin.ensures.moment, c.begin.ensures.calls, c.begin.ensures.items, c.begin.ensures.dropped, c.begin.ensures.ended) refl
