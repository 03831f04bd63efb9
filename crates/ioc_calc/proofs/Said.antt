-- A turn over the statements.
use Rattle.std.proofs.Common.{◌≡◌, ◌≢◌, ℕ, zero, suc, ◌-◌, refl, ap, arith, ◌∙◌, Bool}
use Rattle.std.specs.Prelude.{None}
use Rattle.ioc_calc.specs.Parsing.{State}
use Rattle.ioc_calc.specs.Statements.{statements, statement_and, stored_in, is_none}

pub none : (n : ℕ) (has : Bool) (s : State) → n ≡ 0 → statements n has s ≡ None
unfolding statements
none zero has s h = refl
none (suc n) has s h = absurd (omega arith)

statements_suc : (n : ℕ) (has : Bool) (s : State)
    → statements (suc n) has s ≡ statement_and (statements n) has (is_none (stored_in s.rest)) s
unfolding statements
statements_suc n has s = refl

pub next : (n : ℕ) (has : Bool) (s : State) → n ≢ 0
    → statements n has s ≡ statement_and (statements (n - 1)) has (is_none (stored_in s.rest)) s
next n has s h =
    let e : n ≡ suc (n - 1) = omega arith in
    ap (λ k. statements k has s) e ∙ statements_suc (n - 1) has s
