use Rattle.std.proofs.Common.{arith, ap, length}
use Rattle.ioc_notify.specs.Living.{Living}
use Rattle.ioc_notify.specs.Waits.{Waits}
use Rattle.ioc_store.proofs.Living.{length-forgotten}
use Rattle.ioc_store.proofs.notifications.Notifications.forget.Goals as goal

pub invariant_of-self : goal.invariant_of-self
invariant_of-self c = record {
  room = c.args.self.now.room;
  few = omega (arith, c.args.self.now.few, length-forgotten c.args.number c.args.self.now.live.live, ap (λ (n : Living). length n.live) c.forget-live.ensures.forgotten);
  wide = omega (arith, c.args.self.now.wide, ap (λ (w : Waits). w.room) c.remove-waited.ensures.removed);
}
