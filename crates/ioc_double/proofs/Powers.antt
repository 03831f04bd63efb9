-- Products with powers, within bounds.
use Rattle.std.proofs.Common.{◌≡◌, ℕ, suc, zero, ◌+◌, ◌*◌, ◌^◌, ◌<◌, ◌≤◌, refl, sym, ap, ◌∙◌, arith, lit<}
use Rattle.std.proofs.lemmas.Nat.{pow-add}
use Rattle.std.proofs.Math.Nat.{pow-le-pow_left, pow-le-pow_right, mul-le-mul_left, mul_assoc, le_trans, lt_of_le_of_lt}

-- Nothing is carried out of a product that fits.
pub no_carry : (v p c x : ℕ) → v + p * c ≡ x → x < p → v ≡ x
no_carry v p zero x e h = omega arith
no_carry v p (suc c) x e h = absurd (omega arith)

pub small_power : (b k : ℕ) → b ≤ 5 → k ≤ 13 → b ^ k < 2 ^ 32
small_power b k h i = lt_of_le_of_lt (le_trans (pow-le-pow_left h k) (pow-le-pow_right (lit< tt) i)) (lit< tt)

pub power_fits : (v b i k top : ℕ) → 0 < b → i ≤ k → v * b ^ k < top → v * b ^ i < top
power_fits v b i k top p h lt = lt_of_le_of_lt (mul-le-mul_left v (pow-le-pow_right p h)) lt

-- The product with one more power.
pub power_more : (v b i j k : ℕ) → i + j ≡ k → v * b ^ i * b ^ j ≡ v * b ^ k
power_more v b i j k e = mul_assoc v (b ^ i) (b ^ j) ∙ ap (λ (p : ℕ). v * p) (sym (pow-add b i j) ∙ ap (λ (n : ℕ). b ^ n) e)

pub step_fits : (v w b i j k r m n : ℕ) → w ≡ v * b ^ i → r ≡ b ^ j → i + j ≤ k → 0 < b → v * b ^ k < 10 ^ (9 * n) → m ≡ n → w * r < 10 ^ (9 * m)
step_fits v w b i j k r m n e q h p fits s = rw (e, q, s) (rw (power_more v b i j (i + j) refl) (power_fits v b (i + j) k (10 ^ (9 * n)) p h fits))

pub step_value : (v w b i j k r x : ℕ) → w ≡ v * b ^ i → r ≡ b ^ j → i + j ≡ k → x ≡ w * r → x ≡ v * b ^ k
step_value v w b i j k r x e q h z = z ∙ rw (e, q) (power_more v b i j k h)
