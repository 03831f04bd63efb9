use Rattle.std.proofs.Common.{◌≡◌, ◌≤◌, ℕ, ◌+◌, ◌/◌, ◌^◌, refl, sym, subst, ◌∙◌, lit<, lit≤}
use Rattle.std.specs.Float.Ieee.{Float, binary64, sub}
use Rattle.ioc_double.specs.Fixed.{parts_of, tenths_of}
use Rattle.ioc_double.specs.Size.{whole_double, cut, IsUpTo}
use Rattle.ioc_double.proofs.UpTo.{cast_is, difference_up_to}
use Rattle.ioc_double.proofs.fixed.parts_of.Goals as goal

rest_up_to : (w : ℕ) (x y : Float) → IsUpTo (10 ^ 7) x → w ≡ cut x → y ≡ whole_double w → IsUpTo 1 (sub binary64 x y)
rest_up_to w x y h e q = subst (λ (z : Float). IsUpTo 1 (sub binary64 x z)) (sym q) (difference_up_to (10 ^ 7) w x h (lit≤ tt) e)

parts_are : (w t d : ℕ) (x y : Float) → w ≡ cut x → y ≡ whole_double w → t ≡ tenths_of (sub binary64 x y) d → record { whole = w; fraction = (t + 5) / 10 } ≡ parts_of x d
unfolding parts_of
parts_are w t d x y e q r = rw (r, q, e) refl

pub tenths-tenths-requires-clause-rest : goal.tenths-tenths-requires-clause-rest
tenths-tenths-requires-clause-rest c =
    rest_up_to c.saturating_f64_to_u32-whole.result c.args.size c.from.result c.requires.size
    (c.saturating_f64_to_u32-whole.ensures ∙ (cast_is _ c.args.size c.requires.size (lit< tt)).0) c.from.ensures

pub returns-clause-value : goal.returns-clause-value
returns-clause-value c =
    rw (c.from-2.ensures, c.from-3.ensures)
    (parts_are c.saturating_f64_to_u32-whole.result c.tenths-tenths.result c.args.digits c.args.size c.from.result
    (c.saturating_f64_to_u32-whole.ensures ∙ (cast_is _ c.args.size c.requires.size (lit< tt)).0) c.from.ensures c.tenths-tenths.ensures.value)

pub returns-clause-whole : goal.returns-clause-whole
returns-clause-whole c =
    let k = cast_is _ c.args.size c.requires.size (lit< tt) in
    subst (λ (n : ℕ). n ≤ 10 ^ 7) (sym (c.from-2.ensures ∙ c.saturating_f64_to_u32-whole.ensures ∙ k.0)) k.1
