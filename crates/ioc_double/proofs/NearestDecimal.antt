-- The nearest decimal, from the exact decimal's leading digits.
use Rattle.std.proofs.Common.{◌≡◌, ◌≢◌, ◌⊎◌, ℕ, suc, zero, ◌+◌, ◌-◌, ◌*◌, ◌^◌, ◌<◌, ◌≤◌, Bool, true, false, ℤ, pos, negsuc, ◌-ℤ◌, inl, inr, refl, sym, ap, ◌∙◌, arith, lit<}
use Rattle.std.proofs.lemmas.Int.{ints}
use Rattle.std.proofs.lemmas.Bool.{ne_eqb, leb-true, leb-false}
use Rattle.std.proofs.lemmas.Nat.{pow-add}
use Rattle.std.proofs.Math.Nat.{pow-le-pow_right, one-le-pow, pow-succ', mul-pos, mul-le-mul_right, le_trans, lt_of_le_of_lt}
use Rattle.std.specs.Float.Ieee.Nearest.{closest, closest_mono}
use Rattle.ioc_double.specs.declared.exact.Exact.{Exact}
use Rattle.ioc_double.specs.declared.groups.Leading.{Leading}
use Rattle.ioc_double.specs.Leading.{IsLeading}
use Rattle.ioc_double.specs.Exact.{IsExact}
use Rattle.ioc_double.specs.Nearest.{exponent_of, significand, carried_over, nearest_decimal}
use lib.Dec.{leb}
use Rattle.ioc_double.proofs.Closest.{closest_down}
use Rattle.ioc_double.proofs.Exponents.{exponent_is, exponent_large, exponent_small, significand_large, significand_small}

ten : (k : ℕ) → 0 < 10 ^ k
ten k = one-le-pow k 10 (lit< tt)

-- No leading digits are those of 0.
pub zero_is : (x : Exact) (a b : ℕ) → IsExact x a b → x.leading.head ≡ 0 → a ≡ 0
zero_is x a b e h = let no : ¬ (0 < a) = λ p. let l = e.leading.long (e.long p) in omega arith in omega arith

pub zero_decimal : (d a b : ℕ) → a ≡ 0 → record { digits = 0; exponent = pos 0 } ≡ nearest_decimal d a b
unfolding nearest_decimal
zero_decimal d a b h = rw h refl

positive_number : (a t v b : ℕ) → a * t ≡ v * b → 0 < v → 0 < b → 0 < a
positive_number zero t v b e h k = let p = mul-pos h k in absurd (omega arith)
positive_number (suc a) t v b e h k = omega arith

-- The number has as many digits as its leading digits and those behind them.
module _ (l : Leading) (v f : ℕ) (leads : IsLeading l v) (low : 10 ^ f ≤ l.head) (high : l.head < 10 * 10 ^ f) where
  pub number_low : 10 ^ (f + l.dropped) ≤ v
  number_low =
      let m = mul-le-mul_right (10 ^ l.dropped) low in
      let e = leads.is in
      rw (pow-add 10 f l.dropped) (omega arith)

  pub number_high : v < 10 ^ (f + l.dropped + 1)
  number_high =
      let h : l.head + 1 ≤ 10 * 10 ^ f = omega arith in
      let m = mul-le-mul_right (10 ^ l.dropped) h in
      let e = leads.is in
      let b = leads.below in
      rw (pow-add 10 (f + l.dropped) 1, pow-add 10 f l.dropped) (omega arith)

  pub first_few : f < 36
  first_few = let no : ¬ (36 ≤ f) = λ h. let p : 10 ^ 36 ≤ 10 ^ f = pow-le-pow_right (lit< tt) h in let s = leads.short in omega arith in omega arith

pub first_many : (h f : ℕ) → 10 ^ 27 ≤ h → h < 10 * 10 ^ f → 27 ≤ f
first_many h f l k =
    let no : ¬ (f < 27) = λ s. let p : 10 ^ suc f ≤ 10 ^ 27 = pow-le-pow_right (lit< tt) s in let q = pow-succ' 10 f in omega arith in
    omega arith

-- The digits are at most ten to their count.
pub digits_few : (v d r e : ℕ) → v < 10 ^ (e + 1) → e ≡ d + r → closest v (10 ^ r) ≤ 10 ^ (d + 1)
digits_few v d r e h s =
    let t : 10 ^ (e + 1) ≡ 10 ^ (d + 1) * 10 ^ r = ap (λ (n : ℕ). 10 ^ n) (omega arith) ∙ pow-add 10 (d + 1) r in
    let whole : closest (10 ^ (d + 1) * 10 ^ r) (10 ^ r) ≡ 10 ^ (d + 1) = closest_down (10 ^ (d + 1) * 10 ^ r) (10 ^ r) (10 ^ (d + 1)) 0 (omega arith) (ten r) in
    let less : v * 10 ^ r ≤ 10 ^ (d + 1) * 10 ^ r * 10 ^ r = mul-le-mul_right (10 ^ r) (omega arith) in
    rw (sym whole) (closest_mono v (10 ^ r) (10 ^ (d + 1) * 10 ^ r) (10 ^ r) (ten r) (ten r) less)

order : (p e : ℕ) → ((k : ℕ) × (e ≡ p + k)) ⊎ ((k : ℕ) × (p ≡ e + suc k))
order p e = go (leb p e) refl
  where
    go : (t : Bool) → leb p e ≡ t → ((k : ℕ) × (e ≡ p + k)) ⊎ ((k : ℕ) × (p ≡ e + suc k))
    go true h = let l = leb-true p e h in inl (e - p, omega arith)
    go false h = let l = leb-false p e h in inr (p - e - 1, omega arith)

large_difference : (p k : ℕ) → pos (p + k) -ℤ pos p ≡ pos k
large_difference p k = omega (arith, ints)

small_difference : (e k : ℕ) → pos e -ℤ pos (e + suc k) ≡ negsuc k
small_difference e k = omega (arith, ints)

decimal_is : (d a b n : ℕ) (z : ℤ) → a ≢ 0 → exponent_of a b ≡ z → n ≡ significand d z a b → carried_over d n z ≡ nearest_decimal d a b
unfolding nearest_decimal
decimal_is d a b n z h e q = rw (ne_eqb a 0 h, e, q) refl

-- The number v over 10 ^ p has the exponent e - p.
module _ (d a b n v p e r : ℕ) (z : ℤ) (same : a * 10 ^ p ≡ v * b) (positive : 0 < b) (some : 0 < a) (low : 10 ^ e ≤ v) (high : v < 10 ^ (e + 1)) (q : n ≡ closest v (10 ^ r)) (t : e ≡ d + r)
    (s : z ≡ pos e -ℤ pos p) where
  large_case : (k : ℕ) → k ≤ 1100 → e ≡ p + k → carried_over d n z ≡ nearest_decimal d a b
  large_case k few h =
      let is : z ≡ pos k = s ∙ ap (λ (m : ℕ). pos m -ℤ pos p) h ∙ large_difference p k in
      decimal_is d a b n z (omega arith) (exponent_is (pos k) a b (exponent_large a b v p e same positive low high k h) few ∙ sym is)
      (q ∙ significand_large a b v p e same positive low high k d r h t ∙ ap (λ (y : ℤ). significand d y a b) (sym is))

  small_case : (k : ℕ) → suc k ≤ 1100 → p ≡ e + suc k → carried_over d n z ≡ nearest_decimal d a b
  small_case k few h =
      let is : z ≡ negsuc k = s ∙ ap (λ (m : ℕ). pos e -ℤ pos m) h ∙ small_difference e k in
      decimal_is d a b n z (omega arith) (exponent_is (negsuc k) a b (exponent_small a b v p e same positive low high k h) few ∙ sym is)
      (q ∙ significand_small a b v p e same positive low high k d r h t ∙ ap (λ (y : ℤ). significand d y a b) (sym is))

pub some_number : (x : Exact) (a b f : ℕ) (e : IsExact x a b) → 0 < b → 10 ^ f ≤ x.leading.head → x.leading.head < 10 * 10 ^ f → 0 < a
some_number x a b f e positive low high =
    let l = number_low x.leading e.whole f e.leading low high in
    let t = ten (f + x.leading.dropped) in
    positive_number a (10 ^ x.places) e.whole b e.same (omega arith) positive

pub scientific_is : (x : Exact) (a b d f n : ℕ) (z : ℤ) (e : IsExact x a b) → 0 < b → 10 ^ f ≤ x.leading.head → x.leading.head < 10 * 10 ^ f → d ≤ 15
    → n ≡ closest e.whole (10 ^ (x.leading.dropped + (f - d))) → z ≡ pos (f + x.leading.dropped) -ℤ pos x.places → carried_over d n z ≡ nearest_decimal d a b
scientific_is x a b d f n z e positive low high few q s =
    let some = some_number x a b f e positive low high in
    let many = first_many x.leading.head f (e.leading.long (e.long some)) high in
    let l = number_low x.leading e.whole f e.leading low high in
    let h = number_high x.leading e.whole f e.leading low high in
    let short = first_few x.leading e.whole f e.leading low high in
    let places = e.places in
    let dropped = e.dropped in
    let r = x.leading.dropped + (f - d) in
    let t : f + x.leading.dropped ≡ d + r = omega arith in
    elim (order x.places (f + x.leading.dropped)) [
      | inl k ↦ large_case d a b n e.whole x.places (f + x.leading.dropped) r z e.same positive some l h q t s k.0 (let is = k.1 in omega arith) k.1
      | inr k ↦ small_case d a b n e.whole x.places (f + x.leading.dropped) r z e.same positive some l h q t s k.0 (let is = k.1 in omega arith) k.1
    ]

pub first_is : (x : Exact) (a b f : ℕ) → IsExact x a b → 0 < b → 10 ^ f ≤ x.leading.head → x.leading.head < 10 * 10 ^ f → 27 ≤ f
first_is x a b f e positive low high = first_many x.leading.head f (e.leading.long (e.long (some_number x a b f e positive low high))) high

pub digits_fit : (x : Exact) (a b d f n g : ℕ) (e : IsExact x a b) → 0 < b → 10 ^ f ≤ x.leading.head → x.leading.head < 10 * 10 ^ f → d ≤ 15 → g ≡ d
    → n ≡ closest e.whole (10 ^ (x.leading.dropped + (f - g))) → n < 2 ^ 64
digits_fit x a b d f n g e positive low high few i q =
    let many = first_is x a b f e positive low high in
    let h = number_high x.leading e.whole f e.leading low high in
    let t : f + x.leading.dropped ≡ d + (x.leading.dropped + (f - g)) = omega arith in
    let z = digits_few e.whole d (x.leading.dropped + (f - g)) (f + x.leading.dropped) h t in
    let i : d + 1 ≤ 16 = omega arith in
    let p : 10 ^ (d + 1) ≤ 10 ^ 16 = pow-le-pow_right (lit< tt) i in
    rw q (lt_of_le_of_lt (le_trans z p) (lit< tt))
