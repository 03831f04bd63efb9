use Rattle.std.proofs.Common.{ℕ, List, Option, Some, None, sym, subst, arith}
use Rattle.ioc_notify.specs.declared.live_numbers.Live.{Live}
use Rattle.ioc_notify.specs.Living.{one_more, IsPlaceOf}
use Rattle.ioc_notify.proofs.Numbers.{nobody, gained_there}
use Rattle.ioc_notify.proofs.live_numbers.add_holder.Goals as goal

pub returns-in-Some-clause-live : goal.returns-in-Some-clause-live
returns-in-Some-clause-live c =
    let n = c.args.number in
    let xs = c.args.items.now.items in
    let there : IsPlaceOf n xs (Some c.in-Some.place) = subst (λ (ys : List Live). IsPlaceOf n ys (Some c.in-Some.place)) c.as_slice.ensures.value
    (subst (λ (o : Option ℕ). IsPlaceOf n c.as_slice.result.now o) c.in-Some.is c.place_of.ensures) in
    gained_there n xs c.in-Some.place c.index.result.now there c.index.ensures c.saturating_add.result (omega (arith, c.saturating_add.ensures))

pub returns-in_default-clause-live : goal.returns-in_default-clause-live
returns-in_default-clause-live c =
    let nobody_has : IsPlaceOf c.args.number c.args.items.now.items None = subst (λ (ys : List Live). IsPlaceOf c.args.number ys None) c.as_slice.ensures.value
    (subst (λ (o : Option ℕ). IsPlaceOf c.args.number c.as_slice.result.now o) c.in_default.is c.place_of.ensures) in
    sym (nobody c.args.number one_more c.args.items.now.items nobody_has)
