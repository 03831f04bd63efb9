use Rattle.std.proofs.Common.{◌≡◌, ◌≤◌}
use Rattle.std.specs.Vec.{vec_len, vec_capacity}
use Rattle.ioc_topology.proofs.directory.empty_cells.Given as goal

abbrev pub invariant-loop : goal.invariant-loop
invariant-loop g l = record {
  cells : vec_len l.cells ≡ l.counter;
  flags : vec_len l.flags ≡ l.counter;
  cell_room : l.most ≤ vec_capacity l.cells;
  flag_room : l.most ≤ vec_capacity l.flags;
}
