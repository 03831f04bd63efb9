use Rattle.std.proofs.Common.{◌∙◌, ℕ, List, [], Option, Some, None, sym, subst}
use Rattle.ioc_notify.specs.declared.live_numbers.Live.{Live}
use Rattle.ioc_notify.specs.Living.{IsPlaceOf}
use Rattle.ioc_notify.proofs.Numbers.{nobody, forgotten_there}
use Rattle.ioc_notify.proofs.live_numbers.forget.Goals as goal

pub returns-in_default-clause-forgotten : goal.returns-in_default-clause-forgotten
returns-in_default-clause-forgotten c =
    let nobody_has : IsPlaceOf c.args.number c.args.items.now.items None = subst (λ (ys : List Live). IsPlaceOf c.args.number ys None) c.as_slice.ensures.value
    (subst (λ (o : Option ℕ). IsPlaceOf c.args.number c.as_slice.result.now o) c.in_default.is c.place_of.ensures) in
    sym (nobody c.args.number (λ l. []) c.args.items.now.items nobody_has)

pub returns-clause-forgotten : goal.returns-clause-forgotten
returns-clause-forgotten c =
    let n = c.args.number in
    let xs = c.args.items.now.items in
    let there : IsPlaceOf n xs (Some c.in-Some.place) = subst (λ (ys : List Live). IsPlaceOf n ys (Some c.in-Some.place)) c.as_slice.ensures.value
    (subst (λ (o : Option ℕ). IsPlaceOf n c.as_slice.result.now o) c.in-Some.is c.place_of.ensures) in
    c.remove-live.ensures.items ∙ forgotten_there n xs c.in-Some.place c.remove-live.result there c.remove-live.ensures.value
