-- The stack as a list.
use Rattle.std.proofs.Common.{◌≡◌, ◌≢◌, ℕ, zero, suc, ◌+◌, ◌-◌, ◌<◌, ◌≤◌, List, ◌∷◌, length, refl, ap, arith, ◌∙◌, sym, get_or, add-one}
use Rattle.std.proofs.Math.ListN.{set}
use Rattle.std.proofs.lemmas.List.{get_or-set_same, get_or-set_other}
use Rattle.std.specs.Float.Ieee.{Float}
use Rattle.ioc_calc.specs.Operations.{zero_float}
use Rattle.ioc_calc.specs.Stack.{stack_of, top, below}

pub length-stack_of : (xs : List Float) (d : ℕ) → length (stack_of xs d) ≡ d
length-stack_of xs zero = refl
length-stack_of xs (suc d) = ap suc (length-stack_of xs d)

pub stack_of-set : (xs : List Float) (i : ℕ) (v : Float) (d : ℕ) → d ≤ i → stack_of (set xs i v) d ≡ stack_of xs d
stack_of-set xs i v zero h = refl
stack_of-set xs i v (suc d) h =
    let ne : d ≢ i = omega arith in
    let le : d ≤ i = omega arith in
    ap (λ x. x ∷ stack_of (set xs i v) d) (get_or-set_other xs i d v zero_float ne)
    ∙ ap (λ s. get_or xs d zero_float ∷ s) (stack_of-set xs i v d le)

pub pushed : (xs : List Float) (d : ℕ) (v : Float) → d < length xs → stack_of (set xs d v) (d + 1) ≡ v ∷ stack_of xs d
pushed xs d v h =
    ap (stack_of (set xs d v)) (add-one d)
    ∙ ap (λ x. x ∷ stack_of (set xs d v) d) (get_or-set_same xs d v zero_float h)
    ∙ ap (λ s. v ∷ s) (stack_of-set xs d v d (omega arith))

popped_from : (xs : List Float) (d e : ℕ) → d ≡ suc e
    → (get_or xs e zero_float ≡ top (stack_of xs d)) × (stack_of xs e ≡ below (stack_of xs d))
popped_from xs d e h = (sym (ap (λ k. top (stack_of xs k)) h), sym (ap (λ k. below (stack_of xs k)) h))

pub popped-value : (xs : List Float) (d : ℕ) → 0 < d → get_or xs (d - 1) zero_float ≡ top (stack_of xs d)
popped-value xs d h = (popped_from xs d (d - 1) (omega arith)).0

pub popped-rest : (xs : List Float) (d : ℕ) → 0 < d → stack_of xs (d - 1) ≡ below (stack_of xs d)
popped-rest xs d h = (popped_from xs d (d - 1) (omega arith)).1

pub stack_length : (xs : List Float) (d : ℕ) → length (stack_of xs d) ≡ d
stack_length xs d = length-stack_of xs d
