use Rattle.std.proofs.Common.{◌<◌, subst}
use Rattle.ioc_topology.proofs.directory.set_homes.Goals as goal

pub number_at-requires : goal.number_at-requires
number_at-requires g c = subst (λ n. c.loop-place.place < n) c.len-place-end.ensures c.loop-place-test.true
