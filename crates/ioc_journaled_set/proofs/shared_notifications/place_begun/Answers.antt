use Rattle.std.proofs.Common.{Some, sym, ap, ◌∙◌, inl, inr, ⊎_elim}
use Rattle.ioc_events.specs.declared.event.Call.{Call}
use Rattle.ioc_journal.specs.Account.{number_given}
use Rattle.ioc_journaled_set.proofs.shared_notifications.place_begun.Goals as goal

pub returns-in-Some-clause-within : goal.returns-in-Some-clause-within
returns-in-Some-clause-within c n there =
    ⊎_elim (λ same. inl (ap (λ (made : Call). number_given made) c.in-Event.is ∙ sym c.number_begun.ensures ∙ c.in-Some.is ∙ ap Some same)) (λ old. inr old)
    (c.begin.ensures.within n there)
