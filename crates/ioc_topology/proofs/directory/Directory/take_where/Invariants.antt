use Rattle.std.proofs.Common.{◌+◌, ◌≤◌, true, All}
use Rattle.std.specs.Vec.{vec_len, vec_capacity}
use Rattle.std.specs.Fn.{FnReturnsAt}
use Rattle.ioc_topology.proofs.directory.Directory.take_where.Given as goal

abbrev pub invariant-loop-cell : goal.invariant-loop-cell
invariant-loop-cell g l = record {
  room : vec_len l.sets + vec_len l.all ≤ vec_capacity l.sets;
  cell_room : vec_len l.cells + vec_len l.all ≤ vec_capacity l.cells;
  sound : All g.S.Locked.sound l.sets.items;
  met : All (λ s. FnReturnsAt g.F.Fn l.test s true) l.sets.items;
}

abbrev pub decreases-loop-cell : goal.decreases-loop-cell
decreases-loop-cell g l = vec_len l.all
