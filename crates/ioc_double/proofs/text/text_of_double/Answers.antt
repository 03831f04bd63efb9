use Rattle.std.proofs.Common.{◌^◌, ◌≡◌, ℕ, sym, subst}
use Rattle.std.specs.Float.Ieee.{Float}
use Rattle.ioc_double.specs.Size.{IsUpTo}
use Rattle.ioc_double.specs.Text.{layout_of, size_of}
use Rattle.ioc_double.specs.declared.text.Layout.TheVariants.{Rounded}
use Rattle.ioc_double.proofs.Layouts.{fixed_digits, fixed_up_to, rounded_between, IsBetween}
use Rattle.ioc_double.proofs.text.text_of_double.Goals as goal

size_between : (x y : Float) (d : ℕ) → y ≡ size_of x → Rounded ≡ layout_of x d → IsBetween y
size_between x y d e h = subst (λ (z : Float). IsBetween z) (sym e) (rounded_between x d h)

pub push_fixed-requires-clause-digits : goal.push_fixed-requires-clause-digits
push_fixed-requires-clause-digits c = fixed_digits c.number-number.result c.count-count.result c.in-Fixed.ensures

pub push_rounded-requires-clause-finite : goal.push_rounded-requires-clause-finite
push_rounded-requires-clause-finite c = (size_between c.number-number.result c.abs-size.result c.count-count.result c.abs-size.ensures.value c.in-Rounded.ensures).0

pub push_rounded-requires-clause-large : goal.push_rounded-requires-clause-large
push_rounded-requires-clause-large c = (size_between c.number-number.result c.abs-size.result c.count-count.result c.abs-size.ensures.value c.in-Rounded.ensures).1

pub push_rounded-requires-clause-small : goal.push_rounded-requires-clause-small
push_rounded-requires-clause-small c = (size_between c.number-number.result c.abs-size.result c.count-count.result c.abs-size.ensures.value c.in-Rounded.ensures).2

pub push_fixed-requires-clause-size : goal.push_fixed-requires-clause-size
push_fixed-requires-clause-size c =
    subst (λ (z : Float). IsUpTo (10 ^ 7) z) (sym c.abs-size.ensures.value) (fixed_up_to c.number-number.result c.count-count.result c.in-Fixed.ensures)
