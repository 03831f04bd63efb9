use Rattle.rec_types.specs.Record.{record_rules}
use Rattle.ioc_store.specs.OneMap.{world_of}
use Rattle.ioc_sim.proofs.Closing.{settled_at, room_at}
use Rattle.ioc_sim.proofs.machine.Machine.set_moment.Goals as goal

pub invariant_of-self : goal.invariant_of-self
invariant_of-self c = record {
  settled = settled_at record_rules c.args.moment (world_of c.args.self.now.map) _ c.begin_at.ensures.world c.args.self.now.settled;
  empty = c.args.self.now.empty;
  room = room_at c.args.moment (world_of c.args.self.now.map) _ _ c.begin_at.ensures.world c.args.self.now.room;
}
