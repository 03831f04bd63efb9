use Rattle.std.proofs.Common.{◌≡◌, subst, ◌∙◌, true, false}
use Rattle.std.specs.Float.Ieee.{Float, lt}
use Rattle.ioc_double.proofs.ReadBack.{finite_back, nan_back, inf_back, minus_inf_back}
use Rattle.ioc_double.proofs.shortest.exact_text.Goals as goal

pub returns-then-is_finite : goal.returns-then-is_finite
returns-then-is_finite c =
    finite_back _ c.format_finite.result.now c.number-number.result c.args.value _ (c.filled.ensures ∙ c.as_bytes.ensures.value) c.format_finite.ensures.parses c.format_finite.ensures.plain
    c.is_finite.ensures.value c.if-is_finite.true c.number-number.ensures

pub returns-then-is_nan : goal.returns-then-is_nan
returns-then-is_nan c = nan_back _ c.number-number.result c.args.value _ c.filled-then-is_nan.ensures c.is_nan.ensures.value c.if-is_nan.true c.number-number.ensures

pub returns-then-number-from : goal.returns-then-number-from
returns-then-number-from c =
    minus_inf_back _ c.number-number.result c.args.value _ false c.filled-then-number-from.ensures c.is_finite.ensures.value c.if-is_finite.false
    (subst (λ (y : Float). lt c.number-number.result y ≡ true) c.from.ensures c.if-number-from.true) c.number-number.ensures

pub returns-else-number-from : goal.returns-else-number-from
returns-else-number-from c =
    inf_back _ c.number-number.result c.args.value _ _ c.filled-else-number-from.ensures c.is_finite.ensures.value c.if-is_finite.false c.is_nan.ensures.value c.if-is_nan.false
    (subst (λ (y : Float). lt c.number-number.result y ≡ false) c.from.ensures c.if-number-from.false) c.number-number.ensures
