use Rattle.std.proofs.Common.{◌<◌, length, refl, arith}
use Rattle.ioc_sim.specs.SeenMachine.{machine_of}
use Rattle.ioc_sim.proofs.Scripting.{item_there, queue_there, queue_none}
use Rattle.ioc_sim.proofs.machine.Machine.queue.Goals as goal

pub returns-in_ok-queue-in-Some : goal.returns-in_ok-queue-in-Some
returns-in_ok-queue-in-Some c =
    let items = c.args.self.now.map.devices.items in
    let within : c.index-place.result < length items = omega (arith, c.if-place-len.false, c.len.ensures, c.args.self.now.map.devices.ok.0) in
    queue_there (machine_of c.args.self.now) items c.args.number c.index-place.result c.args.answer c.index-place.ensures refl
    _ c.queue.new.self within (item_there items c.index-place.result c.index_mut.result.now _ within c.index_mut.ensures.value c.in-Some.is) c.in_ok-queue-in-Some.ensures

pub returns-in-None : goal.returns-in-None
returns-in-None c =
    let items = c.args.self.now.map.devices.items in
    let within : c.index-place.result < length items = omega (arith, c.if-place-len.false, c.len.ensures, c.args.self.now.map.devices.ok.0) in
    rw c.in-None.is (queue_none (machine_of c.args.self.now) items c.args.number c.index-place.result c.args.answer c.index-place.ensures refl
    (item_there items c.index-place.result c.index_mut.result.now _ within c.index_mut.ensures.value c.in-None.is))
