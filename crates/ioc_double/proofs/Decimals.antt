-- A whole number times a power of two is one over a power of ten.
use Rattle.std.proofs.Common.{◌≡◌, ℕ, suc, zero, ◌+◌, ◌-◌, ◌*◌, ◌^◌, ◌<◌, ◌≤◌, sym, ap, ◌∙◌, arith, lit<}
use Rattle.std.proofs.lemmas.Nat.{pow-add, pow_pos, mul-pow}
use Rattle.std.proofs.Math.Nat.{eq_of_mul-eq-mul_right, mul-le-mul, one-le-pow, lt_of_le_of_lt}
use Rattle.ioc_double.specs.declared.exact.Exact.{Exact}
use Rattle.ioc_double.specs.Leading.{IsLeading}
use Rattle.ioc_double.specs.Exact.{IsExact}

factor_pos : (a b m p : ℕ) → a * 2 ^ 1074 ≡ m * p * b → 0 < a → 0 < m
factor_pos a b zero p e h = absurd (omega arith)
factor_pos a b (suc m) p e h = omega arith

-- a * 2 ^ 1074 = m * 2 ^ k * b
module _ (a b m k : ℕ) (is : a * 2 ^ 1074 ≡ m * 2 ^ k * b) where
  cancelled : (j : ℕ) → k + j ≡ 1074 → a * 2 ^ j ≡ m * b
  cancelled j e =
      let p : 2 ^ 1074 ≡ 2 ^ k * 2 ^ j = ap (λ (n : ℕ). 2 ^ n) (sym e) ∙ pow-add 2 k j in
      let q : a * (2 ^ k * 2 ^ j) ≡ m * 2 ^ k * b = ap (λ (n : ℕ). a * n) (sym p) ∙ is in
      eq_of_mul-eq-mul_right (2 ^ k) (pow_pos k) (a * 2 ^ j) (m * b) (omega arith)

  small_is : (j v places : ℕ) → k + j ≡ 1074 → places ≡ 27 + j → v ≡ m * 10 ^ 27 * 5 ^ j → a * 10 ^ places ≡ v * b
  small_is j v places e p q =
      let c = cancelled j e in
      let t : 10 ^ places ≡ 10 ^ 27 * (2 ^ j * 5 ^ j) = ap (λ (n : ℕ). 10 ^ n) p ∙ pow-add 10 27 j ∙ ap (λ (n : ℕ). 10 ^ 27 * n) (mul-pow 2 5 j) in
      let d : a * 2 ^ j * 5 ^ j ≡ m * b * 5 ^ j = ap (λ (n : ℕ). n * 5 ^ j) c in
      let s : a * 10 ^ places ≡ a * (10 ^ 27 * (2 ^ j * 5 ^ j)) = ap (λ (n : ℕ). a * n) t in
      let r : v * b ≡ m * 10 ^ 27 * 5 ^ j * b = ap (λ (n : ℕ). n * b) q in
      omega arith

  large_is : (i v : ℕ) → k ≡ 1074 + i → v ≡ m * 10 ^ 27 * 2 ^ i → a * 10 ^ 27 ≡ v * b
  large_is i v e q =
      let p : 2 ^ k ≡ 2 ^ 1074 * 2 ^ i = ap (λ (n : ℕ). 2 ^ n) e ∙ pow-add 2 1074 i in
      let w : a * 2 ^ 1074 ≡ m * (2 ^ 1074 * 2 ^ i) * b = is ∙ ap (λ (n : ℕ). m * n * b) p in
      let c : a ≡ m * 2 ^ i * b = eq_of_mul-eq-mul_right (2 ^ 1074) (pow_pos 1074) a (m * 2 ^ i * b) (omega arith) in
      let r : v * b ≡ m * 10 ^ 27 * 2 ^ i * b = ap (λ (n : ℕ). n * b) q in
      omega arith

  mantissa_pos : 0 < a → 0 < m
  mantissa_pos h = factor_pos a b m (2 ^ k) is h

pub long_number : (m p v : ℕ) → v ≡ m * 10 ^ 27 * p → 0 < m → 0 < p → 10 ^ 27 ≤ v
long_number zero p v e h k = absurd (omega arith)
long_number (suc m) zero v e h k = absurd (omega arith)
long_number (suc m) (suc p) v e h k = omega arith

pub fits_groups : (m p q v n : ℕ) → v ≡ m * 10 ^ 27 → m < 2 ^ 53 → p ≤ q → 2 ^ 53 * 10 ^ 27 * q < 10 ^ 810 → n ≡ 90 → v * p < 10 ^ (9 * n)
fits_groups m p q v n e h k top s = let f : m * 10 ^ 27 ≤ 2 ^ 53 * 10 ^ 27 = omega arith in rw (s, e) (lt_of_le_of_lt (mul-le-mul f k) top)

-- A double with a fraction, or below 2 ^ 53.
pub small_exact : (x : Exact) (a b m k v w : ℕ) → a * 2 ^ 1074 ≡ m * 2 ^ k * b → k < 1074 → x.places ≡ 1101 - k → v ≡ w * 5 ^ (1074 - k) → w ≡ m * 10 ^ 27 → IsLeading x.leading v
    → x.leading.dropped ≤ 810 → IsExact x a b
small_exact x a b m k v w is h p e q l few =
    let n : v ≡ m * 10 ^ 27 * 5 ^ (1074 - k) = rw (sym q) e in
    record {
      whole = v;
      same = small_is a b m k is (1074 - k) v x.places (omega arith) (omega arith) n;
      leading = l;
      long = λ z. long_number m (5 ^ (1074 - k)) v n (mantissa_pos a b m k is z) (one-le-pow (1074 - k) 5 (lit< tt));
      places = (omega arith, omega arith);
      dropped = few;
    }

pub large_exact : (x : Exact) (a b m k v w : ℕ) → a * 2 ^ 1074 ≡ m * 2 ^ k * b → 1074 ≤ k → x.places ≡ 27 → v ≡ w * 2 ^ (k - 1074) → w ≡ m * 10 ^ 27 → IsLeading x.leading v
    → x.leading.dropped ≤ 810 → IsExact x a b
large_exact x a b m k v w is h p e q l few =
    let n : v ≡ m * 10 ^ 27 * 2 ^ (k - 1074) = rw (sym q) e in
    record {
      whole = v;
      same = rw p (large_is a b m k is (k - 1074) v (omega arith) n);
      leading = l;
      long = λ z. long_number m (2 ^ (k - 1074)) v n (mantissa_pos a b m k is z) (one-le-pow (k - 1074) 2 (lit< tt));
      places = (omega arith, omega arith);
      dropped = few;
    }
