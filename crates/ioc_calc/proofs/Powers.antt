-- The turns of a power.
use Rattle.std.proofs.Common.{◌≡◌, ◌≢◌, ℕ, zero, suc, ◌-◌, ◌+◌, ◌<◌, ◌/◌, refl, ap, arith, ◌∙◌}
use Rattle.std.specs.Float.Ieee.{Float, binary64, mul}
use Rattle.ioc_calc.specs.Operations.{multiplied, multiplied_once}

pub multiplied_done : (k : ℕ) (p s : Float) (e : ℕ) → e ≡ 0 → multiplied k p s e ≡ p
unfolding multiplied
multiplied_done zero p s e h = refl
multiplied_done (suc k) p s zero h = refl
multiplied_done (suc k) p s (suc e) h = absurd (omega arith)

pub multiplied_next : (k : ℕ) (p s : Float) (e : ℕ) → e ≢ 0
    → multiplied (suc k) p s e ≡ multiplied k (multiplied_once p s e) (mul binary64 s s) (e / 2)
unfolding multiplied
multiplied_next k p s zero h = absurd (h refl)
multiplied_next k p s (suc e) h = refl

pub multiplied_turn : (c : ℕ) (p s : Float) (e : ℕ) → c < 7 → e ≢ 0
    → multiplied (7 - c) p s e ≡ multiplied (7 - (c + 1)) (multiplied_once p s e) (mul binary64 s s) (e / 2)
multiplied_turn c p s e lt h =
    let turns : 7 - c ≡ suc (7 - (c + 1)) = omega arith in
    ap (λ k. multiplied k p s e) turns ∙ multiplied_next (7 - (c + 1)) p s e h

pub multiplied_over : (k : ℕ) (p s : Float) (e : ℕ) → k ≡ 0 → multiplied k p s e ≡ p
unfolding multiplied
multiplied_over zero p s e h = refl
multiplied_over (suc k) p s e h = absurd (omega arith)
