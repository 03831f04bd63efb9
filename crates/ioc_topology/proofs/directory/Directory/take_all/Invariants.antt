use Rattle.std.proofs.Common.{◌≤◌, All}
use Rattle.std.specs.Vec.{vec_len, vec_capacity}
use Rattle.ioc_topology.proofs.directory.Directory.take_all.Given as goal

abbrev pub invariant-loop-key : goal.invariant-loop-key
invariant-loop-key g l = record {
  room : (vec_len l.sets ≤ l.key) × (l.bound ≤ vec_capacity l.sets);
  cell_room : (vec_len l.cells ≤ l.key) × (l.bound ≤ vec_capacity l.cells);
  sound : All g.S.Locked.sound l.sets.items;
}
