use Rattle.std.proofs.Common.{◌≡◌, ap, ◌∙◌, arith, rules, length}
use Rattle.std.specs.Vec.{vec_len}
use Rattle.slab.specs.Slab.{slab_len}
use Rattle.slab.proofs.SlabLemmas.{length-entries_from}
use Rattle.ioc_topology.proofs.directory.Directory.gather.Goals as goal

pub loop-key-init : goal.loop-key-init
loop-key-init g c =
    let keys = c.take_room-keys.result.keys in
    let many : length c.into_iter-key-iterator.result ≡ slab_len keys = ap length c.into_iter-key-iterator.ensures.into_iter_gives ∙ length-entries_from 0 keys.slots in
    let none : vec_len c.take_room-keys.result.sets ≡ 0 = search rules in
    record {
      room = omega (arith, many, none, c.take_room-keys.ensures.room);
      room_to_end = omega (arith, many, none, c.take_room-keys.ensures.room_to_end);
      left = c.clear.ensures.items;
    }
