-- A turn of the parser.
use Rattle.std.proofs.Common.{◌≡◌, ◌≢◌, ℕ, zero, suc, ◌-◌, refl, ap, arith, ◌∙◌}
use Rattle.std.specs.Prelude.{None}
use Rattle.ioc_calc.specs.declared.parser.Part.{Part}
use Rattle.ioc_calc.specs.Parsing.{State, parse, part_with}

pub parse_none : (n : ℕ) (part : Part) (s : State) → n ≡ 0 → parse n part s ≡ None
unfolding parse
parse_none zero part s h = refl
parse_none (suc n) part s h = absurd (omega arith)

pub parse_suc : (n : ℕ) (part : Part) (s : State) → parse (suc n) part s ≡ part_with (parse n) part s
unfolding parse
parse_suc n part s = refl

pub parse_next : (n : ℕ) (part : Part) (s : State) → n ≢ 0 → parse n part s ≡ part_with (parse (n - 1)) part s
parse_next n part s h =
    let e : n ≡ suc (n - 1) = omega arith in
    ap (λ k. parse k part s) e ∙ parse_suc (n - 1) part s
