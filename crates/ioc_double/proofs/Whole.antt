-- A double is cut to 64 bits exactly where it is between -2^63 and 2^63.
use Rattle.std.proofs.Common.{◌≡◌, ◌^◌, ◌*◌, ◌/◌, ◌%◌, ◌+◌, ◌-◌, ◌<◌, ◌≤◌, ◌&&◌, ◌||◌, ◌≢◌, ℕ, suc, zero, ℤ, pos, negsuc, neg_ℤ, T, Bool, true, false, Some, None, refl, arith, min, lit<}
use Rattle.std.proofs.lemmas.Bool.{lt-ltb, le-ltb, ltb-true, ltb-false, eqb-true, eqb-false}
use Rattle.std.proofs.Math.Nat.{min-eq_left, div-one, div-lt_iff_lt-mul, le-div_iff_mul-le, div-le_of_le-mul}
use Rattle.std.specs.Float.Ieee.{Float, nan, inf, fin, binary64, fits, of_int, round, size, span, climb, units, odd, to_signed, le, lt, eq, neg, up, down}
use Rattle.std.specs.Float.Ieee.Fits.{down_pos, and_l, and_r}
use Rattle.ioc_double.specs.Whole.{whole_of, within_i64}
use lib.Count.{count_trailing_zeros}
use lib.Dec.{ltb, eqb, leb, ltb→lt}

pub lowest_is : of_int binary64 (negsuc 9223372036854775807) ≡ fin true 1 (pos 63)
unfolding of_int round size span climb units odd count_trailing_zeros
lowest_is = refl

pub highest_is : neg (fin true 1 (pos 63)) ≡ fin false 1 (pos 63)
unfolding neg
highest_is = refl

positive_kept : (q : ℕ) → q < 2 ^ 63 → Some (pos (min q (2 ^ 63 - 1))) ≡ within_i64 (Some (pos q))
positive_kept q h = let k : q ≤ 2 ^ 63 - 1 = omega arith in rw (lt-ltb q (2 ^ 63) h, min-eq_left k) refl

negative_kept : (q : ℕ) → q ≤ 2 ^ 63 → Some (neg_ℤ (pos (min q (2 ^ 63)))) ≡ within_i64 (Some (neg_ℤ (pos q)))
negative_kept zero h = refl
negative_kept (suc k) h = let j : k < 2 ^ 63 = omega arith in rw (lt-ltb k (2 ^ 63) j, min-eq_left h) refl

positive_dropped : (q : ℕ) → 2 ^ 63 ≤ q → None ≡ within_i64 (Some (pos q))
positive_dropped q h = rw (le-ltb q (2 ^ 63) h) refl

negative_dropped : (q : ℕ) → 2 ^ 63 < q → None ≡ within_i64 (Some (neg_ℤ (pos q)))
negative_dropped zero h = absurd (omega arith)
negative_dropped (suc k) h = let j : 2 ^ 63 ≤ k = omega arith in rw (le-ltb k (2 ^ 63) j) refl

or_false : (a b : Bool) → (a || b) ≡ false → (a ≡ false) × (b ≡ false)
or_false true b h = absurd cc
or_false false b h = (refl, h)

-- n / d is below 2 ^ 63, at most 2 ^ 63, and at least that
quotient_lt : (n d : ℕ) → 0 < d → n * 1 < 1 * 2 ^ 63 * d → n / d < 2 ^ 63
quotient_lt n d p h = (div-lt_iff_lt-mul p).1 (omega arith)

quotient_le : (n d : ℕ) → n * 1 ≤ 1 * 2 ^ 63 * d → n / d ≤ 2 ^ 63
quotient_le n d h = div-le_of_le-mul d (omega arith)

quotient_ge : (n d : ℕ) → 0 < d → 1 * 2 ^ 63 * d ≤ n * 1 → 2 ^ 63 ≤ n / d
quotient_ge n d p h = (le-div_iff_mul-le p).1 (omega arith)

-- what the comparison of two numbers below 0 says
at_most : (a b : ℕ) (t : Bool) → (ltb b a || (eqb a b && t)) ≡ true → b ≤ a
at_most a b t h = go (ltb b a) (eqb a b) refl refl h
  where
    go : (p q : Bool) → ltb b a ≡ p → eqb a b ≡ q → (p || (q && t)) ≡ true → b ≤ a
    go true q x y k = let z : b < a = ltb-true b a x in omega arith
    go false true x y k = let z : a ≡ b = eqb-true a b y in omega arith
    go false false x y k = absurd cc

above : (a b : ℕ) → (ltb b a || (eqb a b && true)) ≡ false → a < b
above a b h = go (ltb b a) (eqb a b) refl refl h
  where
    go : (p q : Bool) → ltb b a ≡ p → eqb a b ≡ q → (p || (q && true)) ≡ false → a < b
    go true q x y k = absurd cc
    go false true x y k = absurd cc
    go false false x y k =
        let z : a ≤ b = ltb-false b a x in
        let n : a ≢ b = eqb-false a b y in
        omega arith

-- a number in the range is cut
pub cut_there : (x : Float) → le (fin true 1 (pos 63)) x ≡ true → lt x (fin false 1 (pos 63)) ≡ true → Some (to_signed 63 x) ≡ within_i64 (whole_of x)
unfolding whole_of to_signed le lt eq
cut_there nan h k = absurd cc
cut_there (inf true) h k = absurd cc
cut_there (inf false) h k = absurd cc
cut_there (fin true m e) h k = negative_kept (m * up e / down e) (quotient_le (m * up e) (down e) (at_most (1 * 2 ^ 63 * down e) (m * up e * 1) true h))
cut_there (fin false m e) h k = positive_kept (m * up e / down e) (quotient_lt (m * up e) (down e) (down_pos e) (ltb-true (m * up e * 1) (1 * 2 ^ 63 * down e) k))

-- below -2^63 a double has no fraction
few_bits : (m : ℕ) (e : ℤ) → T (fits binary64 (fin true m e)) → m < 2 ^ 53
unfolding fits
few_bits zero e f = lit< tt
few_bits (suc m) e f =
    let A = eqb (suc m % 2) 1 in
    let B = ltb (suc m) (2 ^ 53) in
    let C = leb (down e) (2 ^ 1074) in
    let D = ltb (suc m * up e) (2 ^ 1024 * down e) in
    ltb→lt (suc m) (2 ^ 53) (and_r A B (and_l (A && B) C (and_l (A && B && C) D f)))

far_below : (m : ℕ) (e : ℤ) → T (fits binary64 (fin true m e)) → 1 * 2 ^ 63 * down e < m * up e * 1 → 2 ^ 63 < m * up e / down e
far_below m (pos k) f h = rw (div-one (m * 2 ^ k)) (omega arith)
far_below m (negsuc k) f h = let small = few_bits m (negsuc k) f in let p = down_pos (negsuc k) in absurd (omega arith)

never : (a d : ℕ) → 0 < d → ltb 0 (1 * 2 ^ 63 * d + a) ≡ false → ⊥
never a d p h = let z = ltb-false 0 (1 * 2 ^ 63 * d + a) h in omega arith

never_swapped : (a d : ℕ) → 0 < d → ltb 0 (a + 1 * 2 ^ 63 * d) ≡ false → ⊥
never_swapped a d p h = let z = ltb-false 0 (a + 1 * 2 ^ 63 * d) h in omega arith

-- a number below the range has no such cut
pub cut_below : (x : Float) → T (fits binary64 x) → le (fin true 1 (pos 63)) x ≡ false → None ≡ within_i64 (whole_of x)
unfolding whole_of le lt eq
cut_below nan f h = refl
cut_below (inf s) f h = refl
cut_below (fin true m e) f h = negative_dropped (m * up e / down e) (far_below m e f (above (1 * 2 ^ 63 * down e) (m * up e * 1) h))
cut_below (fin false m e) f h = absurd (never (m * up e * 1) (down e) (down_pos e) (or_false (ltb 0 (1 * 2 ^ 63 * down e + m * up e * 1)) _ h).0)

pub cut_above : (x : Float) → lt x (fin false 1 (pos 63)) ≡ false → None ≡ within_i64 (whole_of x)
unfolding whole_of lt
cut_above nan h = refl
cut_above (inf s) h = refl
cut_above (fin true m e) h = absurd (never_swapped (m * up e * 1) (down e) (down_pos e) h)
cut_above (fin false m e) h = positive_dropped (m * up e / down e) (quotient_ge (m * up e) (down e) (down_pos e) (ltb-false (m * up e * 1) (1 * 2 ^ 63 * down e) h))
