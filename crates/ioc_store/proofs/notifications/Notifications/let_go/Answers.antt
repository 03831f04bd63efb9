use Rattle.std.proofs.Common.{◌∙◌, sym, ap}
use Rattle.ioc_notify.specs.Living.{Living}
use Rattle.ioc_store.proofs.Living.{few-ended, few-left}
use Rattle.ioc_store.proofs.notifications.Notifications.let_go.Goals as goal

pub invariant_of-self : goal.invariant_of-self
invariant_of-self c = record {
  room = c.push_reserved.ensures.capacity ∙ c.args.self.now.room;
  wide = c.args.self.now.wide;
  few = few-ended c.args.number c.args.self.now.live.live c.remove_holder.new.self.live c.args.self.now.ended.items c.push_reserved.new.self.items (ap (λ (n : Living). n.live) c.remove_holder.ensures.lost)
      (sym c.remove_holder.ensures.ended ∙ c.if-remove_holder.true) c.push_reserved.ensures.items c.args.self.now.few;
}

pub invariant_of-self-else-remove_holder : goal.invariant_of-self-else-remove_holder
invariant_of-self-else-remove_holder c = record {
  room = c.args.self.now.room;
  wide = c.args.self.now.wide;
  few = few-left c.args.number c.args.self.now.live.live c.remove_holder.new.self.live c.args.self.now.ended.items (ap (λ (n : Living). n.live) c.remove_holder.ensures.lost) c.args.self.now.few;
}
