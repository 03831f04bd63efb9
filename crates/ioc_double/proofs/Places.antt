-- A number between 10 ^ 7 and 10 ^ 16, rounded at a place behind its point.
use Rattle.std.proofs.Common.{◌≡◌, ℕ, suc, ◌+◌, ◌-◌, ◌*◌, ◌/◌, ◌^◌, ◌<◌, ◌≤◌, length, ap, subst, ◌∙◌, arith, lit<}
use Rattle.std.proofs.lemmas.Nat.{pow-add}
use Rattle.std.proofs.lemmas.Fmt.{length-decimal-le}
use Rattle.std.proofs.Math.Nat.{pow-le-pow_right, one-le-pow, pow-succ', mul-le-mul_left, mul-le-mul_right, mul-lt-mul_of_pos_right, le_of_mul-le-mul_right, lt_of_mul-lt-mul_right, le_trans, lt_of_le_of_lt, div-le_of_le-mul}
use Rattle.std.specs.Fmt.{decimal}
use Rattle.std.specs.Float.Ieee.Nearest.{closest, closest_same, closest_mono}
use Rattle.ioc_double.specs.declared.exact.Exact.{Exact}
use Rattle.ioc_double.specs.Exact.{IsExact}
use Rattle.ioc_double.proofs.Closest.{closest_down}

ten : (k : ℕ) → 0 < 10 ^ k
ten k = one-le-pow k 10 (lit< tt)

tens_reflect : (i j : ℕ) → 10 ^ i ≤ 10 ^ j → i ≤ j
tens_reflect i j h = let no : ¬ (j < i) = λ l. let p : 10 ^ suc j ≤ 10 ^ i = pow-le-pow_right (lit< tt) l in let q = pow-succ' 10 j in let t = ten j in omega arith in omega arith

tens_reflect_lt : (i j : ℕ) → 10 ^ i < 10 ^ j → i < j
tens_reflect_lt i j h = let no : ¬ (j ≤ i) = λ l. let p : 10 ^ j ≤ 10 ^ i = pow-le-pow_right (lit< tt) l in omega arith in omega arith

module _ (x : Exact) (a b : ℕ) (e : IsExact x a b) (positive : 0 < b) (large : 10 ^ 7 * b < a) (small : a ≤ 10 ^ 16 * b) where
  low : 10 ^ (7 + x.places) < e.whole
  low =
      let m : 10 ^ 7 * b * 10 ^ x.places < a * 10 ^ x.places = mul-lt-mul_of_pos_right large (ten x.places) in
      let s = e.same in
      let l : 10 ^ 7 * 10 ^ x.places < e.whole = lt_of_mul-lt-mul_right b (omega arith) in
      rw (pow-add 10 7 x.places) l

  high : e.whole ≤ 10 ^ (16 + x.places)
  high =
      let m : a * 10 ^ x.places ≤ 10 ^ 16 * b * 10 ^ x.places = mul-le-mul_right (10 ^ x.places) small in
      let s = e.same in
      let l : e.whole ≤ 10 ^ 16 * 10 ^ x.places = le_of_mul-le-mul_right {k = b} (omega arith) positive in
      rw (pow-add 10 16 x.places) l

  head_low : 10 ^ (27 + x.leading.dropped) ≤ e.whole
  head_low =
      let l = e.leading.long (e.long (omega arith)) in
      let m = mul-le-mul_right (10 ^ x.leading.dropped) l in
      let s = e.leading.is in
      rw (pow-add 10 27 x.leading.dropped) (omega arith)

  head_high : e.whole < 10 ^ (36 + x.leading.dropped)
  head_high =
      let h : x.leading.head + 1 ≤ 10 ^ 36 = let s = e.leading.short in omega arith in
      let m = mul-le-mul_right (10 ^ x.leading.dropped) h in
      let s = e.leading.is in
      let l = e.leading.below in
      rw (pow-add 10 36 x.leading.dropped) (omega arith)

  pub far : x.leading.dropped + 11 ≤ x.places
  far = let z = tens_reflect (27 + x.leading.dropped) (16 + x.places) (le_trans head_low high) in omega arith

  pub near : x.places ≤ x.leading.dropped + 28
  near = let l = low in let h = head_high in let z = tens_reflect_lt (7 + x.places) (36 + x.leading.dropped) (omega arith) in omega arith

  pub with_places : (k n g : ℕ) → k ≤ 3 → g ≡ k → n ≡ closest e.whole (10 ^ (x.leading.dropped + (x.places - (x.leading.dropped + g)))) → n ≡ closest (a * 10 ^ k) b
  with_places k n g few i q =
      let f = far in
      let r : x.leading.dropped + (x.places - (x.leading.dropped + g)) ≡ x.places - k = omega arith in
      let t : 10 ^ x.places ≡ 10 ^ k * 10 ^ (x.places - k) = ap (λ (j : ℕ). 10 ^ j) (omega arith) ∙ pow-add 10 k (x.places - k) in
      let s : a * 10 ^ x.places ≡ a * (10 ^ k * 10 ^ (x.places - k)) = ap (λ (j : ℕ). a * j) t in
      let w = e.same in
      q ∙ ap (λ (j : ℕ). closest e.whole (10 ^ j)) r ∙ closest_same e.whole (10 ^ (x.places - k)) (a * 10 ^ k) b (ten (x.places - k)) positive (omega arith)

pub places_bound : (a b k : ℕ) → 0 < b → a ≤ 10 ^ 16 * b → closest (a * 10 ^ k) b ≤ 10 ^ 16 * 10 ^ k
places_bound a b k positive small =
    let m : a * 10 ^ k ≤ 10 ^ 16 * b * 10 ^ k = mul-le-mul_right (10 ^ k) small in
    let one : closest (10 ^ 16 * 10 ^ k) 1 ≡ 10 ^ 16 * 10 ^ k = closest_down (10 ^ 16 * 10 ^ k) 1 (10 ^ 16 * 10 ^ k) 0 (omega arith) (lit< tt) in
    let less : a * 10 ^ k * 1 ≤ 10 ^ 16 * 10 ^ k * b = omega arith in
    subst (λ (n : ℕ). closest (a * 10 ^ k) b ≤ n) one (closest_mono (a * 10 ^ k) b (10 ^ 16 * 10 ^ k) 1 positive (lit< tt) less)

pub places_fit : (n k : ℕ) → n ≤ 10 ^ 16 * 10 ^ k → k ≤ 3 → n < 2 ^ 64
places_fit n k h few = let p : 10 ^ k ≤ 10 ^ 3 = pow-le-pow_right (lit< tt) few in let m = mul-le-mul_left (10 ^ 16) p in omega arith

-- The whole part of such a number has at most 17 digits.
pub whole_fits : (n k t : ℕ) → n ≤ 10 ^ 16 * 10 ^ k → t ≡ 10 ^ k → length (decimal (n / t)) ≤ 17
whole_fits n k t h e =
    let z : n / t ≤ 10 ^ 16 = div-le_of_le-mul t (rw e (let c = h in omega arith)) in
    length-decimal-le 17 (n / t) (lit< tt) (lt_of_le_of_lt z (lit< tt)) (lt_of_le_of_lt z (lit< tt))

pub ten_positive : (t k : ℕ) → t ≡ 10 ^ k → 0 < t
ten_positive t k e = rw e (ten k)
