-- The size of a finite double by the fields of its bits.
use Rattle.std.proofs.Common.{◌≡◌, ℕ, suc, ◌+◌, ◌-◌, ◌*◌, ◌/◌, ◌%◌, ◌^◌, ◌≢◌, Bool, true, false, T, cond, refl, sym, ap, subst, ◌∙◌, arith}
use Rattle.std.proofs.lemmas.Bool.{eqb-false}
use Rattle.std.specs.Float.{float_is_finite}
use Rattle.std.specs.Float.Ieee.{Float, nan, inf, fin, binary64, fits, to_bits, of_bits, of_fields, odd}
use Rattle.std.specs.Float.Ieee.Bits.{of_bits-to_bits}
use Rattle.std.specs.Float.Ieee.Digits.{Equals, odd_val}
use Rattle.std.specs.Float.Ieee.Positive.{num, den}
use lib.Dec.{eqb, leb}

size_of : (x : Float) (a c : ℕ) → Equals x a c → num x * c ≡ a * den x
size_of nan a c h = absurd h
size_of (inf s) a c h = absurd h
size_of (fin s m e) a c h = h

-- An exponent's field of 0 stands for the same power as one of 1, and has no leading digit.
zero_field : (s : Bool) (t : ℕ) → num (of_fields binary64 s 0 t) * 2 ^ 1074 ≡ t * 2 ^ 0 * den (of_fields binary64 s 0 t)
unfolding of_fields
zero_field s t = size_of (odd 53 s t 0 1074) (t * 2 ^ 0) (2 ^ 1074) (odd_val 53 s t 0 1074)

-- A field of ones is an infinity's or NaN's.
finite_field : (s : Bool) (x t : ℕ) → float_is_finite (of_fields binary64 s (suc x) t) ≡ true → (suc x ≢ 2047) × (num (of_fields binary64 s (suc x) t) * 2 ^ 1074 ≡ (2 ^ 52 + t) * 2 ^ x * den (of_fields binary64 s (suc x) t))
unfolding of_fields float_is_finite
finite_field s x t h = go (eqb (suc x) 2047) (eqb t 0) refl h
  where
    go : (p q : Bool) → eqb (suc x) 2047 ≡ p
        → float_is_finite (cond p (cond q (inf s) nan) (odd 53 s (2 ^ 52 + t) x 1074)) ≡ true
        → (suc x ≢ 2047) × (num (cond p (cond q (inf s) nan) (odd 53 s (2 ^ 52 + t) x 1074)) * 2 ^ 1074 ≡ (2 ^ 52 + t) * 2 ^ x * den (cond p (cond q (inf s) nan) (odd 53 s (2 ^ 52 + t) x 1074)))
    go true true e k = absurd cc
    go true false e k = absurd cc
    go false q e k = (eqb-false (suc x) 2047 e, size_of (odd 53 s (2 ^ 52 + t) x 1074) ((2 ^ 52 + t) * 2 ^ x) (2 ^ 1074) (odd_val 53 s (2 ^ 52 + t) x 1074))

-- The number that bits are.
pub of_own_bits : (x : Float) (b : ℕ) → T (fits binary64 x) → b ≡ to_bits binary64 x → of_fields binary64 (leb (2 ^ 63) b) (b % 2 ^ 63 / 2 ^ 52) (b % 2 ^ 52) ≡ x
unfolding of_bits
of_own_bits x b f e = ap (λ (n : ℕ). of_bits binary64 n) e ∙ of_bits-to_bits binary64 x f

abbrev HasSize : Float → ℕ → ℕ → Type 0
HasSize x m k = num x * 2 ^ 1074 ≡ m * 2 ^ k * den x

pub small_size : (x : Float) (b : ℕ) → T (fits binary64 x) → b ≡ to_bits binary64 x → b % 2 ^ 63 / 2 ^ 52 ≡ 0 → num x * 2 ^ 1074 ≡ b % 2 ^ 52 * 1 * den x
small_size x b f e z =
    subst (λ (y : Float). HasSize y (b % 2 ^ 52) 0)
    (ap (λ (n : ℕ). of_fields binary64 (leb (2 ^ 63) b) n (b % 2 ^ 52)) (sym z) ∙ of_own_bits x b f e)
    (zero_field (leb (2 ^ 63) b) (b % 2 ^ 52))

next : (n : ℕ) → n ≢ 0 → suc (n - 1) ≡ n
next n h = omega arith

pub usual_size : (x : Float) (b : ℕ) → T (fits binary64 x) → float_is_finite x ≡ true → b ≡ to_bits binary64 x → b % 2 ^ 63 / 2 ^ 52 ≢ 0
    → (b % 2 ^ 63 / 2 ^ 52 ≢ 2047) × (num x * 2 ^ 1074 ≡ (2 ^ 52 + b % 2 ^ 52) * 2 ^ (b % 2 ^ 63 / 2 ^ 52 - 1) * den x)
usual_size x b f finite e z =
    let k = b % 2 ^ 63 / 2 ^ 52 in
    let s = leb (2 ^ 63) b in
    let t = b % 2 ^ 52 in
    let is : of_fields binary64 s (suc (k - 1)) t ≡ x = ap (λ (n : ℕ). of_fields binary64 s n t) (next k z) ∙ of_own_bits x b f e in
    let w = finite_field s (k - 1) t (subst (λ (y : Float). float_is_finite y ≡ true) (sym is) finite) in
    (subst (λ (n : ℕ). n ≢ 2047) (next k z) w.0, subst (λ (y : Float). HasSize y (2 ^ 52 + t) (k - 1)) is w.1)
