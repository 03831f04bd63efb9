use Rattle.ioc_sim.specs.Deeds.{event_of}
use Rattle.ioc_sim.proofs.Eventing.{room_on, event_on}
use Rattle.ioc_sim.proofs.machine.Machine.run.Goals as goal

pub invariant_of-self : goal.invariant_of-self
invariant_of-self c = record {
  settled = (event_on c.args.self.now (event_of c.args.deed.now) c.begin_event.new.map c.run_deed.new.map c.begin_event.ensures.world c.begin_event.ensures.devices c.run_deed.new.tally c.run_deed.result c.run_deed.ensures.run.given c.run_deed.ensures.step).settled c.begin_event.ensures.settled;
  empty = c.run_deed.ensures.run.empty;
  room = rw (c.run_deed.ensures.run.keeps.count, c.run_deed.ensures.run.room) (room_on c.args.self.now c.begin_event.new.map c.begin_event.ensures.world);
}

pub returns : goal.returns
returns c = (event_on c.args.self.now (event_of c.args.deed.now) c.begin_event.new.map c.run_deed.new.map c.begin_event.ensures.world c.begin_event.ensures.devices c.run_deed.new.tally c.run_deed.result c.run_deed.ensures.run.given c.run_deed.ensures.step).gives
