use Rattle.std.proofs.Common.{◌≡◌, ℕ, ◌<◌, true, length, get_or, subst, ◌∙◌, below_more, rules}
use Rattle.ioc_notify.specs.Living.{is_live}
use Rattle.ioc_set.specs.SetState.{SetState}
use Rattle.std.proofs.lemmas.List.{get_or_default}
use Rattle.ioc_journaled_set.proofs.together.counting.all_live.Goals as goal

pub loop-set-preserved : goal.loop-set-preserved
loop-set-preserved g c = λ i d lt.
    let sets = c.args.sets.now in
    let index = c.loop-set.set-index in
    let within : index < length sets = search rules in
    let live : is_live c.args.number c.set-item.result.live ≡ true = search rules in
    let P : ℕ → Type 0 = λ j. (e : SetState g.row.K.Denot g.row.D.Denot) → is_live c.args.number (get_or sets j e).live ≡ true in
    below_more P index (λ j below e. c.loop-set.invariant j e below)
    (λ e. subst (λ (h : SetState g.row.K.Denot g.row.D.Denot). is_live c.args.number h.live ≡ true) (c.set-item.is ∙ get_or_default sets index c.set-item.result e within) live) i lt d
