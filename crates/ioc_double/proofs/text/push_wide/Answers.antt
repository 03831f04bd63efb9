use Rattle.std.proofs.Common.{◌++◌, List, ℕ, sym, ap, ◌∙◌}
use Rattle.ioc_double.proofs.Layouts.{wide_nan, wide_infinite, wide_finite, is_finite}
use Rattle.ioc_double.proofs.text.push_wide.Goals as goal

pub push_scientific-requires-clause-finite : goal.push_scientific-requires-clause-finite
push_scientific-requires-clause-finite c = is_finite c.args.size _ _ c.is_nan.ensures.value c.if-is_nan.false c.is_infinite.ensures.value c.if-is_infinite.false

pub returns-then-is_nan : goal.returns-then-is_nan
returns-then-is_nan c = c.push_bytes.ensures ∙ ap (λ (l : List ℕ). c.args.text.now.items ++ l) (sym (wide_nan c.args.size c.args.digits _ c.is_nan.ensures.value c.if-is_nan.true))

pub returns-then-is_infinite : goal.returns-then-is_infinite
returns-then-is_infinite c =
    c.push_bytes-then-is_infinite.ensures
    ∙ ap (λ (l : List ℕ). c.args.text.now.items ++ l) (sym (wide_infinite c.args.size c.args.digits _ c.is_infinite.ensures.value c.if-is_infinite.true))

pub returns-else-is_infinite : goal.returns-else-is_infinite
returns-else-is_infinite c =
    c.push_scientific.ensures
    ∙ ap (λ (l : List ℕ). c.args.text.now.items ++ l)
    (sym (wide_finite c.args.size c.args.digits (is_finite c.args.size _ _ c.is_nan.ensures.value c.if-is_nan.false c.is_infinite.ensures.value c.if-is_infinite.false)))
