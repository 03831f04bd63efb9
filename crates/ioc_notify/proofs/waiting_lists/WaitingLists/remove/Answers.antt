use Rattle.std.proofs.Common.{◌≡◌, ap, ◌∙◌, rules, nat_eq, not}
use Rattle.std.proofs.lemmas.Fn.{filter_same}
use Rattle.ioc_notify.specs.Waits.{Waits, without}
use Rattle.ioc_notify.proofs.Lists.{same_waits}
use Rattle.ioc_notify.proofs.waiting_lists.WaitingLists.remove.Goals as goal

pub returns-clause-removed : goal.returns-clause-removed
returns-clause-removed c =
    let kept : c.retain.new.self.items ≡ without c.args.number c.self.inside.items.items = filter_same _ (λ w. not (nat_eq w.number c.args.number)) _ (λ x b f k. search rules) _ _ c.retain.ensures.filtered in
    same_waits _ _ _ _ (kept ∙ ap (λ (w : Waits). without c.args.number w.waiting) c.self.view_is) (c.retain.ensures.capacity ∙ ap (λ (w : Waits). w.room) c.self.view_is)
