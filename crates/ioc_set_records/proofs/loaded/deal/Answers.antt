use Rattle.std.proofs.Common.{◌≡◌, ◌<◌, List, [], length, length-drop, take, drop, set, get_or, sym, ap, ◌∙◌, subst, arith}
use Rattle.std.specs.Prelude.{slice_index}
use Rattle.std.specs.Vec.Iter.{into_iter_items}
use Rattle.std.proofs.lemmas.List.{get_or-replicate, length-replicate, length-set, take_all}
use Rattle.ioc_set_records.specs.Contents.{Contents, nothing}
use Rattle.ioc_set_records.specs.declared.loaded.Loaded.{Loaded}
use Rattle.ioc_set_records.specs.Dealing.{HasPart, AreDealt, with_loaded}
use Rattle.ioc_set_records.proofs.Dealt.{has_none, dealt_more, numbers_below, next_loaded, lent_back}
use Rattle.ioc_set_records.proofs.loaded.deal.Goals as goal

pub loop-number-init : goal.loop-number-init
loop-number-init g c =
    let count = length c.args.parts.now in
    let made = c.as_mut_slice-by_part.ensures.value ∙ c.in_ok-sets.ensures in
    record {
      rest = c.into_iter-left.ensures.rest;
      one_each = ap length made ∙ length-replicate count nothing ∙ c.requires.one_each;
      so_far = λ p l. subst (λ m. HasPart [] c.args.parts.now p m)
          (sym (ap (λ z. get_or z p nothing) made ∙ get_or-replicate count p nothing nothing (omega (arith, c.requires.one_each))))
          (has_none c.args.parts.now p);
    }

pub loop-number-preserved : goal.loop-number-preserved
loop-number-preserved g c =
    let all = c.args.all.items in
    let n = c.loop-number.number in
    let l = c.in-Some.loaded in
    let within : n < length all = let e = c.requires.one_each in omega (arith, c.loop-number-test.true) in
    let next = next_loaded all (into_iter_items c.loop-number.left) (into_iter_items c.next.new.self) n l within c.loop-number.invariant.rest c.in-Some.ensures.items in
    let i = c.loop-number.invariant in
    let part : slice_index c.args.parts.now n < length all = let b = c.requires.below n 0 c.loop-number-test.true in omega (arith, c.requires.one_each) in
    record {
      rest = next.1;
      one_each = ap length c.in_ok-add_to.ensures ∙ length-set c.loop-number.by_part (slice_index c.args.parts.now n) _ ∙ i.one_each;
      so_far = dealt_more all c.args.parts.now n l within next.0 c.loop-number.by_part c.add_to.new.sets i.one_each part (c.in_ok-add_to.ensures ∙ ap (λ k. set c.loop-number.by_part (slice_index c.args.parts.now n) (with_loaded (get_or c.loop-number.by_part (slice_index c.args.parts.now n) nothing) k l)) c.new.ensures) i.so_far;
    }

pub unreachable-requires : goal.unreachable-requires
unreachable-requires g c =
    let all = c.args.all.items in
    let n = c.loop-number.number in
    let e : length (into_iter_items c.loop-number.left) ≡ length (drop n all) = ap length c.loop-number.invariant.rest in
    let k = c.loop-number.left.rest.ok in
    omega (arith, length-drop n all, c.in_default.ensures.cases.0, c.loop-number-test.true, c.requires.one_each)

pub add_to-requires-clause-there : goal.add_to-requires-clause-there
add_to-requires-clause-there g c =
    let b = c.requires.below c.loop-number.number 0 c.loop-number-test.true in
    omega (arith, c.requires.one_each, c.loop-number.invariant.one_each)

pub add_to-requires-clause-above : goal.add_to-requires-clause-above
add_to-requires-clause-above g c =
    let all = c.args.all.items in
    let n = c.loop-number.number in
    let l = c.in-Some.loaded in
    let within : n < length all = let e = c.requires.one_each in omega (arith, c.loop-number-test.true) in
    let next = next_loaded all (into_iter_items c.loop-number.left) (into_iter_items c.next.new.self) n l within c.loop-number.invariant.rest c.in-Some.ensures.items in
    let part : slice_index c.args.parts.now n < length all = let b = c.requires.below n 0 c.loop-number-test.true in omega (arith, c.requires.one_each) in
    λ q there.
    let b = numbers_below all c.args.parts.now n l within next.0 (slice_index c.args.parts.now n) _ (c.loop-number.invariant.so_far (slice_index c.args.parts.now n) part) q there in
    let e = c.new.ensures in omega arith

pub add_to-requires-clause-same : goal.add_to-requires-clause-same
add_to-requires-clause-same g c =
    let all = c.args.all.items in
    let n = c.loop-number.number in
    let l = c.in-Some.loaded in
    let within : n < length all = let e = c.requires.one_each in omega (arith, c.loop-number-test.true) in
    let next = next_loaded all (into_iter_items c.loop-number.left) (into_iter_items c.next.new.self) n l within c.loop-number.invariant.rest c.in-Some.ensures.items in
    subst (λ (z : Loaded g.row.K.Denot g.row.D.Denot). z.base ≡ z.fields) next.0 (c.requires.same n l within)

pub returns : goal.returns
returns g c =
    let all = c.args.all.items in
    let n = c.loop-number.number in
    let sets = c.loop-number.by_part in
    let i = c.loop-number.invariant in
    let whole : take n all ≡ all = take_all n all (omega (arith, c.requires.one_each)) in
    let dealt : AreDealt all c.args.parts.now sets = record {
      one_each = i.one_each;
      each = λ p l. subst (λ (z : List (Loaded g.row.K.Denot g.row.D.Denot)). HasPart z c.args.parts.now p (get_or sets p nothing)) whole (i.so_far p l);
    } in
    let len : length sets ≡ c.in_ok-sets.sets.len =
    let made : length c.in_ok-sets.sets.items ≡ length c.args.parts.now = ap length c.in_ok-sets.ensures ∙ length-replicate (length c.args.parts.now) nothing in
    omega (arith, c.in_ok-sets.sets.ok.0, c.requires.one_each, i.one_each) in
    subst (λ (z : List (Contents g.row.K.Denot g.row.D.Denot)). AreDealt all c.args.parts.now z) (sym (lent_back sets _ c.in_ok-sets.sets.len len)) dealt
