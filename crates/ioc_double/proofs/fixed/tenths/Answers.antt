use Rattle.std.proofs.Common.{◌≤◌, ℕ, ◌*◌, ◌^◌, sym, ap, subst, ◌∙◌}
use Rattle.std.specs.Float.{float_to_unsigned}
use Rattle.std.specs.Float.Ieee.{Float}
use Rattle.std.specs.Int.{w32}
use Rattle.ioc_double.specs.Fixed.{scaled}
use Rattle.ioc_double.proofs.UpTo.{cast_is, scaled_up_to, scaled_few}
use Rattle.ioc_double.proofs.fixed.tenths.Goals as goal

pub returns-clause-value : goal.returns-clause-value
returns-clause-value c =
    c.saturating_f64_to_u32.ensures
    ∙ ap (λ (x : Float). float_to_unsigned w32 x) c.scaled.ensures
    ∙ (cast_is _ (scaled c.args.rest c.args.digits) (scaled_up_to c.args.rest c.args.digits c.requires.rest c.requires.digits) (scaled_few c.args.digits c.requires.digits)).0

pub returns-clause-bound : goal.returns-clause-bound
returns-clause-bound c =
    let k = cast_is _ (scaled c.args.rest c.args.digits) (scaled_up_to c.args.rest c.args.digits c.requires.rest c.requires.digits) (scaled_few c.args.digits c.requires.digits) in
    subst (λ (n : ℕ). n ≤ 10 ^ c.args.digits * 10) (sym (c.saturating_f64_to_u32.ensures ∙ ap (λ (x : Float). float_to_unsigned w32 x) c.scaled.ensures ∙ k.0)) k.1
