use Rattle.std.proofs.Common.{rules, ◌≡◌, ap, true, false, T, subst, sym, ◌∙◌, Some, w64, pos, ℤ}
use Rattle.std.proofs.lemmas.Int.{to_z-of_z}
use Rattle.std.specs.Float.Ieee.{Float, le, lt, neg, fin}
use Rattle.ioc_double.proofs.Whole.{lowest_is, highest_is, cut_there, cut_below, cut_above}
use Rattle.ioc_double.proofs.number.cut.Goals as goal
use Rattle.ioc_double.proofs.number.cut.Goals.{else-lowest-number-via-then-lowest-number+else-number-lowest, else-lowest-number-via-else-lowest-number}

lowest : (x : Float) → x ≡ fin true 1 (pos 63) → neg x ≡ fin false 1 (pos 63)
lowest x e = ap neg e ∙ highest_is

pub returns-then-number-lowest : goal.returns-then-number-lowest
returns-then-number-lowest c =
    let e = c.nearest_i64_to_f64-lowest.ensures ∙ lowest_is in
    ap (λ (z : ℤ). Some z) (to_z-of_z w64 c.saturating_f64_to_i64.result (search (rules, c.saturating_f64_to_i64.type_inv)) ∙ c.saturating_f64_to_i64.ensures)
    ∙ cut_there c.args.number (subst (λ (y : Float). le y c.args.number ≡ true) e c.if-lowest-number.true)
    (subst (λ (y : Float). lt c.args.number y ≡ true) (lowest _ e) c.if-number-lowest.true)

pub returns-else-lowest-number : goal.returns-else-lowest-number
returns-else-lowest-number c =
    let e = c.nearest_i64_to_f64-lowest.ensures ∙ lowest_is in
    elim c.else-lowest-number.branch [
      | else-lowest-number-via-then-lowest-number+else-number-lowest w ↦
          cut_above c.args.number (subst (λ (y : Float). lt c.args.number y ≡ false) (lowest _ e) w.if-number-lowest.false)
      | else-lowest-number-via-else-lowest-number w ↦
          cut_below c.args.number (subst T (sym c.well_formed.0.1) tt) (subst (λ (y : Float). le y c.args.number ≡ false) e w.if-lowest-number.false)
    ]
