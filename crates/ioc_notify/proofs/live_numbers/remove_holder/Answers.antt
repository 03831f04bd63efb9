use Rattle.std.proofs.Common.{◌∙◌, ℕ, List, Option, Some, None, true, false, sym, subst, arith}
use Rattle.ioc_notify.specs.declared.live_numbers.Live.{Live}
use Rattle.ioc_notify.specs.Living.{one_less, IsPlaceOf}
use Rattle.ioc_notify.proofs.Numbers.{nobody, lost_more, lost_last, at_its_last, lt_true, lt_false}
use Rattle.ioc_notify.proofs.live_numbers.remove_holder.Goals as goal

pub returns-in_default-clause-lost : goal.returns-in_default-clause-lost
returns-in_default-clause-lost c =
    let nobody_has : IsPlaceOf c.args.number c.args.items.now.items None = subst (λ (ys : List Live). IsPlaceOf c.args.number ys None) c.as_slice.ensures.value
    (subst (λ (o : Option ℕ). IsPlaceOf c.args.number c.as_slice.result.now o) c.in_default.is c.place_of.ensures) in
    sym (nobody c.args.number one_less c.args.items.now.items nobody_has)

pub returns-then-holders-gt1-clause-ended : goal.returns-then-holders-gt1-clause-ended
returns-then-holders-gt1-clause-ended c =
    let n = c.args.number in
    let xs = c.args.items.now.items in
    let there : IsPlaceOf n xs (Some c.in-Some.place) = subst (λ (ys : List Live). IsPlaceOf n ys (Some c.in-Some.place)) c.as_slice.ensures.value
    (subst (λ (o : Option ℕ). IsPlaceOf n c.as_slice.result.now o) c.in-Some.is c.place_of.ensures) in
    sym (at_its_last n xs c.in-Some.place c.index.result.now there c.index.ensures true (lt_true 1 c.index.result.now.holders c.if-holders-gt1.true))

pub returns-then-holders-gt1-clause-lost : goal.returns-then-holders-gt1-clause-lost
returns-then-holders-gt1-clause-lost c =
    let n = c.args.number in
    let xs = c.args.items.now.items in
    let there : IsPlaceOf n xs (Some c.in-Some.place) = subst (λ (ys : List Live). IsPlaceOf n ys (Some c.in-Some.place)) c.as_slice.ensures.value
    (subst (λ (o : Option ℕ). IsPlaceOf n c.as_slice.result.now o) c.in-Some.is c.place_of.ensures) in
    lost_more n xs c.in-Some.place c.index.result.now there c.index.ensures (lt_true 1 c.index.result.now.holders c.if-holders-gt1.true)

pub returns-clause-ended : goal.returns-clause-ended
returns-clause-ended c =
    let n = c.args.number in
    let xs = c.args.items.now.items in
    let there : IsPlaceOf n xs (Some c.in-Some.place) = subst (λ (ys : List Live). IsPlaceOf n ys (Some c.in-Some.place)) c.as_slice.ensures.value
    (subst (λ (o : Option ℕ). IsPlaceOf n c.as_slice.result.now o) c.in-Some.is c.place_of.ensures) in
    sym (at_its_last n xs c.in-Some.place c.index.result.now there c.index.ensures false (lt_false 1 c.index.result.now.holders (omega arith)))

pub returns-clause-lost : goal.returns-clause-lost
returns-clause-lost c =
    let n = c.args.number in
    let xs = c.args.items.now.items in
    let there : IsPlaceOf n xs (Some c.in-Some.place) = subst (λ (ys : List Live). IsPlaceOf n ys (Some c.in-Some.place)) c.as_slice.ensures.value
    (subst (λ (o : Option ℕ). IsPlaceOf n c.as_slice.result.now o) c.in-Some.is c.place_of.ensures) in
    c.remove-live.ensures.items ∙ lost_last n xs c.in-Some.place c.index.result.now there c.index.ensures (lt_false 1 c.index.result.now.holders (omega arith))
