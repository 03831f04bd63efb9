use Rattle.std.proofs.Common.{◌≡◌, ◌≤◌, ℕ, ◌<◌, length, get_or, ap, subst, sym, ◌∙◌, rules, arith}
use Rattle.std.specs.Prelude.{IfNone, ◌^◌}
use Rattle.std.proofs.lemmas.List.{get_or_default}
use Rattle.std.proofs.lemmas.List.Sums.{sum_by_more_le}
use Rattle.ioc_notify.specs.Living.{holders_of}
use Rattle.ioc_set.specs.SetState.{SetState}
use Rattle.ioc_journaled_set.specs.GiveUpLaws.{holders_in_all}
use Rattle.ioc_journaled_set.proofs.together.counting.total_in.Goals as goal

pub returns-in_err-total-clause-too_many : goal.returns-in_err-total-clause-too_many
returns-in_err-total-clause-too_many g c =
    let sets = c.args.sets.now in
    let index = c.loop-set.set-index in
    let item = c.set-item.result in
    let within : index < length sets = search rules in
    let count : SetState g.row.K.Denot g.row.D.Denot → ℕ = λ h. holders_of c.args.number h.live in
    let at : item ≡ get_or sets index item = c.set-item.is ∙ get_or_default sets index item item within in
    let here : c.holders_by.result ≡ count (get_or sets index item) = c.holders_by.ensures ∙ ap (holders_of c.args.number) c.live_puts.ensures ∙ ap count at in
    let total = c.loop-set.invariant in
    let over = c.in_err-total.ensures in
    let below = sum_by_more_le count sets index item within in
    subst (λ r. IfNone r (2 ^ 64 ≤ holders_in_all c.args.number sets)) (sym c.from_residual.ensures) (omega (arith, here, total, over, below))
