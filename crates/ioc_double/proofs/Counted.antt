-- The decimal exponent of a fraction, as it is counted.
use Rattle.std.proofs.Common.{◌≡◌, ℕ, suc, zero, ◌*◌, ◌^◌, ◌<◌, ◌≤◌, ◌%◌, ◌&&◌, Bool, true, false, nat_le, nat_lt, T, pos, negsuc, inl, inr, refl, ap, subst, ◌∙◌, arith, lit<, lit≤}
use Rattle.std.proofs.lemmas.Bool.{ltb-true, ltb-false, leb-true, leb-false, le-leb, lt-ltb}
use Rattle.std.proofs.Math.Nat.{eq-or-lt_of_le, pow-le-pow_right, mul-le-mul_left, mul-le-mul_right, mul-pos, le_refl, le_trans, lt_of_lt_of_le, lt_of_le_of_lt}
use Rattle.std.specs.Float.Ieee.{Float, nan, inf, fin, binary64, fits, up, down}
use Rattle.std.specs.Float.Ieee.Fits.{up_pos, down_pos, and_l, and_r}
use Rattle.std.specs.Float.Ieee.Positive.{num, den}
use Rattle.ioc_double.specs.Nearest.{IsExponent, how_many, exponent_of}
use Rattle.ioc_double.proofs.Exponents.{all_counted}
use lib.Dec.{leb, ltb, eqb, ltb→lt, leb→le}

-- A test that holds below each number where it holds.
abbrev IsFalling : (ℕ → Bool) → Type 0
IsFalling test = (i j : ℕ) → i ≤ j → test j ≡ true → test i ≡ true

record Counts (n : ℕ) (test : ℕ → Bool) : Type 0 where
  below : (i : ℕ) → i < how_many n test → test i ≡ true
  above : (i : ℕ) → how_many n test ≤ i → i < n → test i ≡ false
  few : how_many n test ≤ n

counts : (n : ℕ) (test : ℕ → Bool) → IsFalling test → Counts n test
unfolding how_many
counts zero test f = record { below = λ i h. absurd (omega arith); above = λ i h k. absurd (omega arith); few = lit≤ tt }
counts (suc n) test f = go (test n) refl (counts n test f)
  where
    go : (b : Bool) → test n ≡ b → Counts n test → Counts (suc n) test
    go true e c =
        let all : how_many (suc n) test ≡ suc n = all_counted (suc n) test (λ i h. f i n (omega arith) e) in
        record { below = λ i h. f i n (omega arith) e; above = λ i h k. absurd (omega arith); few = omega arith }
    go false e c =
        let same : how_many (suc n) test ≡ how_many n test = rw e (omega arith) in
        record {
          below = λ i h. c.below i (omega arith);
          above = λ i h k. elim (eq-or-lt_of_le k) [ inl q ↦ let s : i ≡ n = omega arith in ap test s ∙ e | inr l ↦ c.above i (omega arith) (omega arith) ];
          few = let l = c.few in omega arith;
        }

tens_up : (i j : ℕ) → i ≤ j → 10 ^ suc i ≤ 10 ^ suc j
tens_up i j h = pow-le-pow_right (lit< tt) (let k : suc i ≤ suc j = omega arith in k)

-- The fraction reaches each power of ten up to its exponent.
reaches_falling : (a b : ℕ) → IsFalling (λ i. nat_le (10 ^ suc i * b) a)
reaches_falling a b i j h t = le-leb (10 ^ suc i * b) a (le_trans (mul-le-mul_right b (tens_up i j h)) (leb-true (10 ^ suc j * b) a t))

reached : (a b k : ℕ) → b ≤ a → ((i : ℕ) → i < k → nat_le (10 ^ suc i * b) a ≡ true) → 10 ^ k * b ≤ a
reached a b zero h f = omega arith
reached a b (suc i) h f = leb-true (10 ^ suc i * b) a (f i (omega arith))

large_exponent : (a b : ℕ) → b ≤ a → a < 10 ^ 1100 * b → exponent_of a b ≡ pos (how_many 1100 (λ i. nat_le (10 ^ suc i * b) a)) → IsExponent (exponent_of a b) a b
large_exponent a b h high e =
    let test = λ (i : ℕ). nat_le (10 ^ suc i * b) a in
    let c : Counts 1100 test = counts 1100 test (reaches_falling a b) in
    let k = how_many 1100 test in
    let low : 10 ^ k * b ≤ a = reached a b k h c.below in
    rw e (
      low,
      elim (eq-or-lt_of_le c.few) [
        | inl q ↦ let z : 10 ^ 1100 * b ≤ a = subst (λ (n : ℕ). 10 ^ n * b ≤ a) q low in absurd (omega arith)
        | inr l ↦ leb-false (10 ^ suc k * b) a (c.above k (le_refl k) l)
      ],
    )

below_falling : (a b : ℕ) → IsFalling (λ i. nat_lt (a * 10 ^ suc i) b)
below_falling a b i j h t = lt-ltb (a * 10 ^ suc i) b (lt_of_le_of_lt (mul-le-mul_left a (tens_up i j h)) (ltb-true (a * 10 ^ suc j) b t))

kept_below : (a b k : ℕ) → a < b → ((i : ℕ) → i < k → nat_lt (a * 10 ^ suc i) b ≡ true) → a * 10 ^ k < b
kept_below a b zero h f = omega arith
kept_below a b (suc i) h f = ltb-true (a * 10 ^ suc i) b (f i (omega arith))

small_exponent : (a b : ℕ) → a < b → b ≤ a * 10 ^ 1100 → exponent_of a b ≡ negsuc (how_many 1100 (λ i. nat_lt (a * 10 ^ suc i) b)) → IsExponent (exponent_of a b) a b
small_exponent a b h low e =
    let test = λ (i : ℕ). nat_lt (a * 10 ^ suc i) b in
    let c : Counts 1100 test = counts 1100 test (below_falling a b) in
    let k = how_many 1100 test in
    let high : a * 10 ^ k < b = kept_below a b k h c.below in
    rw e (
      elim (eq-or-lt_of_le c.few) [
        | inl q ↦ let z : a * 10 ^ 1100 < b = subst (λ (n : ℕ). a * 10 ^ n < b) q high in absurd (omega arith)
        | inr l ↦ ltb-false (a * 10 ^ suc k) b (c.above k (le_refl k) l)
      ],
      high,
    )

-- The counted exponent of a fraction in range is its exponent.
exponent_counted : (a b : ℕ) → a < 10 ^ 1100 * b → b ≤ a * 10 ^ 1100 → IsExponent (exponent_of a b) a b
unfolding exponent_of
exponent_counted a b high low = go (nat_le b a) refl
  where
    go : (t : Bool) → nat_le b a ≡ t → IsExponent (exponent_of a b) a b
    go true e = large_exponent a b (leb-true b a e) high (rw e refl)
    go false e = small_exponent a b (leb-false b a e) low (rw e refl)

in_range : (m u d : ℕ) → 0 < m → 0 < u → 0 < d → m * u < 2 ^ 1024 * d → d ≤ 2 ^ 1074 → (m * u < 10 ^ 1100 * d) × (d ≤ m * u * 10 ^ 1100)
in_range m u d pm pu pd high low =
    let some = mul-pos pm pu in
    let wide : 2 ^ 1024 * d ≤ 10 ^ 1100 * d = mul-le-mul_right d (lit≤ tt) in
    let many : 1 * 10 ^ 1100 ≤ m * u * 10 ^ 1100 = mul-le-mul_right (10 ^ 1100) some in
    let t : 2 ^ 1074 ≤ 10 ^ 1100 = lit≤ tt in
    (lt_of_lt_of_le high wide, le_trans (le_trans low t) (le_trans (omega arith) many))

-- Each double above 0 in size has its exponent counted.
pub exponent_of_double : (x : Float) → T (fits binary64 x) → 0 < num x → IsExponent (exponent_of (num x) (den x)) (num x) (den x)
unfolding fits
exponent_of_double nan f h = absurd (omega arith)
exponent_of_double (inf s) f h = absurd (omega arith)
exponent_of_double (fin s zero e) f h = absurd (omega arith)
exponent_of_double (fin s (suc m) e) f h =
    let A = eqb (suc m % 2) 1 in
    let B = ltb (suc m) (2 ^ 53) in
    let C = leb (down e) (2 ^ 1074) in
    let D = ltb (suc m * up e) (2 ^ 1024 * down e) in
    let high = ltb→lt (suc m * up e) (2 ^ 1024 * down e) (and_r (A && B && C) D f) in
    let low = leb→le (down e) (2 ^ 1074) (and_r (A && B) C (and_l (A && B && C) D f)) in
    let r = in_range (suc m) (up e) (down e) (omega arith) (up_pos e) (down_pos e) high low in
    exponent_counted (suc m * up e) (down e) r.0 r.1
