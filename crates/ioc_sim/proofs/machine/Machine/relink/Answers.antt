use Rattle.std.proofs.Common.{◌≡◌, ◌≤◌, ℕ}
use Rattle.ioc_store.specs.OneMap.{world_of}
use Rattle.ioc_sim.proofs.Eventing.{settled_on, closed_on, room_on, link_on, no_link_on, on_ok, on_err, if_err, link_settled, link_count}
use Rattle.ioc_sim.proofs.machine.Machine.relink.Goals as goal

same_count : {m n room : ℕ} → n ≡ m → m ≤ room → n ≤ room
same_count is few = rw is few

pub invariant_of-self : goal.invariant_of-self
invariant_of-self c = record {
  settled =
      link_settled c.args.number c.args.field c.args.link (world_of c.begin_event.new.map) (world_of c.run_link.new.store) c.run_link.result c.link_change_keeps.ensures.settled c.run_link.ensures.done c.run_link.ensures.world
      c.run_link.ensures.same (settled_on c.args.self.now c.begin_event.new.map c.begin_event.ensures.world);
  empty = c.args.self.now.empty;
  room =
      same_count
      (link_count c.args.number c.args.field c.args.link (world_of c.begin_event.new.map) (world_of c.run_link.new.store) c.run_link.result c.link_change_keeps.ensures.count c.run_link.ensures.done c.run_link.ensures.world
      c.run_link.ensures.same (closed_on c.args.self.now c.begin_event.new.map c.begin_event.ensures.world)) (room_on c.args.self.now c.begin_event.new.map c.begin_event.ensures.world);
}

pub returns-in-Ok : goal.returns-in-Ok
returns-in-Ok c =
    link_on c.args.self.now c.begin_event.new.map c.run_link.new.store c.begin_event.ensures.world c.begin_event.ensures.devices c.run_link.ensures.given c.args.number c.args.field c.args.link
    (on_ok c.run_link.result _ _ c.in-Ok.is c.run_link.ensures.done) (on_ok c.run_link.result _ _ c.in-Ok.is c.run_link.ensures.world)

pub returns-in-Err : goal.returns-in-Err
returns-in-Err c =
    no_link_on c.args.self.now c.begin_event.new.map c.run_link.new.store c.begin_event.ensures.world c.begin_event.ensures.devices c.run_link.ensures.given c.args.number c.args.field c.args.link
    c.in-Err.refused (if_err c.run_link.result _ _ c.in-Err.is c.run_link.ensures.refused) (on_err c.run_link.result _ _ c.in-Err.is c.run_link.ensures.same)
