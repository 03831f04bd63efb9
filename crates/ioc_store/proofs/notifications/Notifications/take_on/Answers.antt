use Rattle.std.proofs.Common.{arith, ap, length}
use Rattle.ioc_notify.specs.Living.{Living}
use Rattle.ioc_store.proofs.Living.{length-gained}
use Rattle.ioc_store.proofs.notifications.Notifications.take_on.Goals as goal

pub invariant_of-self : goal.invariant_of-self
invariant_of-self c = record {
  room = c.args.self.now.room;
  wide = c.args.self.now.wide;
  few = omega (arith, c.args.self.now.few, length-gained c.args.number c.args.self.now.live.live, ap (λ (n : Living). length n.live) c.add_holder.ensures);
}
