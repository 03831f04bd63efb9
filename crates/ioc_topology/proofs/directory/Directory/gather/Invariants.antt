use Rattle.std.proofs.Common.{◌≡◌, ◌+◌, ◌≤◌, [], length}
use Rattle.std.specs.Vec.{vec_len, vec_capacity}
use Rattle.ioc_topology.proofs.directory.Directory.gather.Given as goal

abbrev pub invariant-loop-key : goal.invariant-loop-key
invariant-loop-key g l = record {
  room : vec_len l.sets + length l.key-iterator ≤ vec_capacity l.sets;
  room_to_end : vec_len l.sets + length l.key-iterator ≤ vec_capacity l.ended;
  left : l.self-inside.homes.items ≡ [];
}
