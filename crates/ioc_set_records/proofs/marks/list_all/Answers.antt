use Rattle.std.proofs.Common.{◌≡◌, ◌+◌, ◌++◌, ◌∷◌, [], length, ap, sym, ◌∙◌, arith}
use Rattle.std.specs.List.{range_with_len}
use Rattle.std.proofs.lemmas.List.FromFn.{length-range_with_len}
use Rattle.ioc_set_records.proofs.Twins.{range_more}
use Rattle.ioc_set_records.proofs.marks.list_all.Goals as goal

pub loop-place-preserved : goal.loop-place-preserved
loop-place-preserved c =
    let n = c.loop-place.place in
    let e : 0 + n ≡ n = omega arith in (
      c.push_reserved.ensures.items ∙ ap (λ z. z ++ n ∷ []) c.loop-place.invariant.0 ∙ sym (range_more 0 n ∙ ap (λ x. range_with_len 0 n ++ x ∷ []) e),
      c.push_reserved.ensures.capacity ∙ c.loop-place.invariant.1,
    )

pub push_reserved-requires : goal.push_reserved-requires
push_reserved-requires c =
    let len = length-range_with_len 0 c.loop-place.place in
    let is = ap length c.loop-place.invariant.0 in
    omega (arith, len, is, c.loop-place.invariant.1, c.loop-place.changed.ok.0, c.loop-place-test.true, c.requires)
