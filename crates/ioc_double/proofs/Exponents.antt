-- The decimal exponent and the digits of a fraction, from its exact decimal.
use Rattle.std.proofs.Common.{◌≡◌, ℕ, suc, zero, ◌+◌, ◌*◌, ◌^◌, ◌<◌, ◌≤◌, Bool, true, false, nat_le, nat_lt, ℤ, pos, negsuc, nat_abs, inl, inr, refl, sym, ap, ◌∙◌, arith, lit<}
use Rattle.std.proofs.lemmas.Bool.{lt-ltb, le-ltb, le-leb, lt-leb}
use Rattle.std.proofs.lemmas.Nat.{pow-add}
use Rattle.std.proofs.Math.Nat.{eq-or-lt_of_le, mul-pos, pow-le-pow_right, one-le-pow, mul-le-mul_left, mul-le-mul_right, le_trans, lt_of_le_of_lt, lt_of_lt_of_le, le_of_mul-le-mul_right, lt_of_mul-lt-mul_right, mul-lt-mul_of_pos_right}
use Rattle.std.specs.Float.Ieee.Nearest.{closest, closest_same}
use Rattle.ioc_double.specs.Nearest.{IsExponent, how_many, exponent_of, significand}

pub all_counted : (n : ℕ) (test : ℕ → Bool) → ((i : ℕ) → i < n → test i ≡ true) → how_many n test ≡ n
unfolding how_many
all_counted zero test below = refl
all_counted (suc n) test below = rw (below n (omega arith), all_counted n test (λ i h. below i (omega arith))) (omega arith)

-- Tests that hold below k alone count k numbers.
counted : (n k : ℕ) (test : ℕ → Bool) → k ≤ n → ((i : ℕ) → i < k → test i ≡ true) → ((i : ℕ) → k ≤ i → test i ≡ false) → how_many n test ≡ k
unfolding how_many
counted zero k test h below above = omega arith
counted (suc n) k test h below above =
    elim (eq-or-lt_of_le h) [
      | inl e ↦ all_counted (suc n) test (λ i l. below i (omega arith)) ∙ sym e
      | inr l ↦ let few : k ≤ n = omega arith in rw (above n few, counted n k test few below above) (omega arith)
    ]

ten : (k : ℕ) → 0 < 10 ^ k
ten k = one-le-pow k 10 (lit< tt)

tens_le : (i k : ℕ) → i ≤ k → 10 ^ i ≤ 10 ^ k
tens_le i k h = pow-le-pow_right (lit< tt) h

-- A fraction has one exponent.
exponent_pos : (k a b : ℕ) → k ≤ 1100 → 10 ^ k * b ≤ a → a < 10 ^ suc k * b → exponent_of a b ≡ pos k
unfolding exponent_of
exponent_pos k a b few low high =
    let reached : b ≤ a = let m = mul-le-mul_right b (ten k) in omega arith in
    rw (le-leb b a reached)
    (ap pos
    (counted 1100 k (λ (i : ℕ). nat_le (10 ^ suc i * b) a) few
    (λ i h. le-leb (10 ^ suc i * b) a (le_trans (mul-le-mul_right b (tens_le (suc i) k h)) low))
    (λ i h. lt-leb (10 ^ suc i * b) a (lt_of_lt_of_le high (mul-le-mul_right b (tens_le (suc k) (suc i) (omega arith)))))))

exponent_neg : (k a b : ℕ) → k ≤ 1100 → b ≤ a * 10 ^ suc k → a * 10 ^ k < b → exponent_of a b ≡ negsuc k
unfolding exponent_of
exponent_neg k a b few low high =
    let below : a < b = let m = mul-le-mul_left a (ten k) in omega arith in
    rw (lt-leb b a below)
    (ap negsuc
    (counted 1100 k (λ (i : ℕ). nat_lt (a * 10 ^ suc i) b) few
    (λ i h. lt-ltb (a * 10 ^ suc i) b (lt_of_le_of_lt (mul-le-mul_left a (tens_le (suc i) k h)) high))
    (λ i h. le-ltb (a * 10 ^ suc i) b (le_trans low (mul-le-mul_left a (tens_le (suc k) (suc i) (omega arith)))))))

pub exponent_is : (z : ℤ) (a b : ℕ) → IsExponent z a b → nat_abs z ≤ 1100 → exponent_of a b ≡ z
exponent_is (pos k) a b h few = exponent_pos k a b few h.0 h.1
exponent_is (negsuc k) a b h few = exponent_neg k a b (omega arith) h.0 h.1

-- a / b is v / 10 ^ p, and v has e + 1 digits.
module _ (a b v p e : ℕ) (same : a * 10 ^ p ≡ v * b) (positive : 0 < b) (low : 10 ^ e ≤ v) (high : v < 10 ^ (e + 1)) where
  pub exponent_large : (k : ℕ) → e ≡ p + k → IsExponent (pos k) a b
  exponent_large k s =
      let q : 10 ^ e ≡ 10 ^ p * 10 ^ k = ap (λ (n : ℕ). 10 ^ n) s ∙ pow-add 10 p k in
      let t : 10 ^ (e + 1) ≡ 10 ^ p * 10 ^ suc k = ap (λ (n : ℕ). 10 ^ n) (omega arith) ∙ pow-add 10 p (suc k) in
      let l : 10 ^ e * b ≤ v * b = mul-le-mul_right b low in
      let h : v * b < 10 ^ (e + 1) * b = mul-lt-mul_of_pos_right high positive in
      let qb : 10 ^ e * b ≡ 10 ^ p * 10 ^ k * b = ap (λ (n : ℕ). n * b) q in
      let tb : 10 ^ (e + 1) * b ≡ 10 ^ p * 10 ^ suc k * b = ap (λ (n : ℕ). n * b) t in
      (le_of_mul-le-mul_right {k = 10 ^ p} (omega arith) (ten p), lt_of_mul-lt-mul_right (10 ^ p) (omega arith))

  pub exponent_small : (k : ℕ) → p ≡ e + suc k → IsExponent (negsuc k) a b
  exponent_small k s =
      let q : 10 ^ p ≡ 10 ^ e * 10 ^ suc k = ap (λ (n : ℕ). 10 ^ n) s ∙ pow-add 10 e (suc k) in
      let t : 10 ^ p ≡ 10 ^ k * 10 ^ (e + 1) = ap (λ (n : ℕ). 10 ^ n) (omega arith) ∙ pow-add 10 k (e + 1) in
      let l : 10 ^ e * b ≤ v * b = mul-le-mul_right b low in
      let h : v * b < 10 ^ (e + 1) * b = mul-lt-mul_of_pos_right high positive in
      let qa : a * 10 ^ p ≡ a * (10 ^ e * 10 ^ suc k) = ap (λ (n : ℕ). a * n) q in
      let ta : a * 10 ^ p ≡ a * (10 ^ k * 10 ^ (e + 1)) = ap (λ (n : ℕ). a * n) t in
      (le_of_mul-le-mul_right {k = 10 ^ e} (omega arith) (ten e), lt_of_mul-lt-mul_right (10 ^ (e + 1)) (omega arith))

  pub significand_large : (k d r : ℕ) → e ≡ p + k → e ≡ d + r → closest v (10 ^ r) ≡ significand d (pos k) a b
  significand_large k d r s t = closest_same v (10 ^ r) (a * 10 ^ d) (10 ^ k * b) (ten r) (mul-pos (ten k) positive)
      (let q : 10 ^ d * 10 ^ r ≡ 10 ^ p * 10 ^ k = sym (pow-add 10 d r) ∙ ap (λ (n : ℕ). 10 ^ n) (sym t ∙ s) ∙ pow-add 10 p k in
      let qa : a * (10 ^ d * 10 ^ r) ≡ a * (10 ^ p * 10 ^ k) = ap (λ (n : ℕ). a * n) q in
      let vk : a * 10 ^ p * 10 ^ k ≡ v * b * 10 ^ k = ap (λ (n : ℕ). n * 10 ^ k) same in
      omega arith)

  pub significand_small : (k d r : ℕ) → p ≡ e + suc k → e ≡ d + r → closest v (10 ^ r) ≡ significand d (negsuc k) a b
  significand_small k d r s t = closest_same v (10 ^ r) (a * 10 ^ d * 10 ^ suc k) b (ten r) positive
      (let q : 10 ^ p ≡ 10 ^ d * 10 ^ r * 10 ^ suc k = ap (λ (n : ℕ). 10 ^ n) s ∙ pow-add 10 e (suc k) ∙ ap (λ (n : ℕ). n * 10 ^ suc k) (ap (λ (n : ℕ). 10 ^ n) t ∙ pow-add 10 d r) in
      let qa : a * 10 ^ p ≡ a * (10 ^ d * 10 ^ r * 10 ^ suc k) = ap (λ (n : ℕ). a * n) q in
      omega arith)
