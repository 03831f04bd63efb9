-- Products, differences and casts of small numbers.
use Rattle.std.proofs.Common.{◌≡◌, ℕ, ◌+◌, ◌-◌, ◌*◌, ◌/◌, ◌^◌, ◌<◌, ◌≤◌, Bool, true, false, cond, ◌&&◌, ◌||◌, T, refl, sym, ap, subst, ◌∙◌, arith, lit<, lit≤}
use Rattle.std.proofs.lemmas.Bool.{ltb-true, le-ltb, eqb-true}
use Rattle.std.proofs.Math.Nat.{min-eq_left, mul-one, pow-le-pow_right, mul-le-mul, mul-le-mul_right, mul-pos, le_of_mul-le-mul_right, le_trans, div-mul-le_self, div-le_of_le-mul, lt-mul-div-succ}
use Rattle.std.specs.Float.Ieee.{Float, nan, inf, fin, binary64, round, units, odd, add, sub, sum, mul, neg, lt, le, eq, of_int, to_unsigned, up, down}
use Rattle.std.specs.Float.{float_to_unsigned}
use Rattle.std.specs.Int.{w32}
use Rattle.std.specs.Float.Ieee.Back.{round_whole}
use Rattle.std.specs.Float.Ieee.Exact.{HasValue, odd_sign}
use Rattle.std.specs.Float.Ieee.Fits.{down_pos}
use Rattle.std.specs.Float.Ieee.Order.{round_mono}
use Rattle.ioc_double.specs.Size.{whole_double, cut, IsUpTo}
use Rattle.ioc_double.specs.Fixed.{scaled}
use lib.Dec.{ltb, eqb}

-- A rounded fraction keeps its sign, and is no NaN.
abbrev HasSign : Bool → Float → Type 0
HasSign s nan = ⊥
HasSign s (inf t) = t ≡ s
HasSign s (fin t m e) = t ≡ s

of_value : (x : Float) (s : Bool) (a c : ℕ) → HasValue x s a c → HasSign s x
of_value nan s a c h = absurd h
of_value (inf t) s a c h = absurd h
of_value (fin t m e) s a c h = h.0

units_sign : (s : Bool) (q k : ℕ) → HasSign s (units binary64 s q k)
unfolding units
units_sign s q k = go (ltb (q * 2 ^ k) (2 ^ 2098))
  where
    go : (b : Bool) → HasSign s (cond b (odd 54 s q k 1074) (inf s))
    go true = of_value (odd 54 s q k 1074) s (q * 2 ^ k) (2 ^ 1074) (odd_sign 54 s q k 1074)
    go false = refl

round_sign : (s : Bool) (a c : ℕ) → HasSign s (round binary64 s a c)
unfolding round
round_sign s a c = units_sign s _ _

at_most : (a b : ℕ) (t : Bool) → T (ltb a b || (eqb a b && t)) → a ≤ b
at_most a b t h = go (ltb a b) (eqb a b) refl refl h
  where
    go : (p q : Bool) → ltb a b ≡ p → eqb a b ≡ q → T (p || (q && t)) → a ≤ b
    go true q x y k = let z : a < b = ltb-true a b x in omega arith
    go false true x y k = let z : a ≡ b = eqb-true a b y in omega arith
    go false false x y k = absurd k

below_value : (n : ℕ) (x y : Float) → HasSign false x → HasValue y false n 1 → T (le x y) → IsUpTo n x
unfolding le lt eq
below_value n nan y s v h = absurd s
below_value n (inf true) y s v h = absurd cc
below_value n (inf false) nan s v h = absurd h
below_value n (inf false) (inf t) s v h = absurd v
below_value n (inf false) (fin t k d) s v h = absurd h
below_value n (fin t m e) nan s v h = absurd v
below_value n (fin t m e) (inf u) s v h = absurd v
below_value n (fin true m e) (fin u k d) s v h = absurd cc
below_value n (fin false m e) (fin true k d) s v h = absurd (let z = v.0 in cc)
below_value n (fin false m e) (fin false k d) s v h =
    let l : m * up e * down d ≤ k * up d * down e = at_most (m * up e * down d) (k * up d * down e) true h in
    let w : k * up d * down e ≡ n * down d * down e = ap (λ (z : ℕ). z * down e) (sym (mul-one (k * up d)) ∙ v.1) in
    (refl, le_of_mul-le-mul_right {k = down d} (omega arith) (down_pos d))

-- A fraction of at most n, rounded, is at most n.
round_up_to : (n a c : ℕ) → 0 < c → a ≤ n * c → n ≤ 2 ^ 53 → IsUpTo n (round binary64 false a c)
round_up_to n a c p h few = below_value n (round binary64 false a c) (round binary64 false n 1) (round_sign false a c) (round_whole binary64 false n few) (round_mono binary64 a c n 1 p (lit< tt) (omega arith))

-- A product with a whole number.
product : (a b : ℕ) (x y : Float) → IsUpTo a x → HasValue y false b 1 → a * b ≤ 2 ^ 53 → IsUpTo (a * b) (mul binary64 x y)
unfolding mul
product a b nan y h v few = absurd h
product a b (inf s) y h v few = absurd h
product a b (fin s m e) nan h v few = absurd v
product a b (fin s m e) (inf t) h v few = absurd v
product a b (fin true m e) (fin t n d) h v few = absurd (let z = h.0 in cc)
product a b (fin false m e) (fin true n d) h v few = absurd (let z = v.0 in cc)
product a b (fin false m e) (fin false n d) h v few =
    let k : n * up d ≡ b * down d = sym (mul-one (n * up d)) ∙ v.1 in
    let l : n * up d ≤ b * down d = omega arith in
    let p : m * up e * (n * up d) ≤ a * down e * (b * down d) = mul-le-mul h.1 l in
    round_up_to (a * b) (m * up e * (n * up d)) (down e * down d) (mul-pos (down_pos e) (down_pos d)) (omega arith) few

pub product_up_to : (a b : ℕ) (x : Float) → IsUpTo a x → b ≤ 2 ^ 53 → a * b ≤ 2 ^ 53 → IsUpTo (a * b) (mul binary64 x (whole_double b))
unfolding of_int
product_up_to a b x h s few = product a b x (round binary64 false b 1) h (round_whole binary64 false b s) few

-- A number less its whole part.
difference : (w : ℕ) (x y : Float) → IsUpTo (2 ^ 53) x → w ≡ cut x → HasValue y false w 1 → IsUpTo 1 (sub binary64 x y)
unfolding sub add neg sum
difference w nan y h e v = absurd h
difference w (inf s) y h e v = absurd h
difference w (fin s m e) nan h q v = absurd v
difference w (fin s m e) (inf t) h q v = absurd v
difference w (fin true m e) (fin t n d) h q v = absurd (let z = h.0 in cc)
difference w (fin false m e) (fin true n d) h q v = absurd (let z = v.0 in cc)
difference w (fin false m e) (fin false n d) h q v =
    let whole : n * up d * down e ≡ w * down d * down e = ap (λ (z : ℕ). z * down e) (sym (mul-one (n * up d)) ∙ v.1) in
    let low : w * down e * down d ≤ m * up e * down d = mul-le-mul_right (down d) (rw q (div-mul-le_self (m * up e) (down e))) in
    let over : m * up e < down e * (w + 1) = rw q (lt-mul-div-succ (m * up e) (down_pos e)) in
    let high : (m * up e + 1) * down d ≤ down e * (w + 1) * down d = mul-le-mul_right (down d) (omega arith) in
    let less : n * up d * down e ≤ m * up e * down d = omega arith in
    let rest : m * up e * down d - n * up d * down e ≤ 1 * (down e * down d) = omega arith in
    rw (le-ltb (m * up e * down d) (n * up d * down e) less)
    (round_up_to 1 (m * up e * down d - n * up d * down e) (down e * down d) (mul-pos (down_pos e) (down_pos d)) rest (lit< tt))

wider : (n : ℕ) (x : Float) → IsUpTo n x → n ≤ 2 ^ 53 → IsUpTo (2 ^ 53) x
wider n nan h few = h
wider n (inf s) h few = h
wider n (fin s m e) h few = (h.0, le_trans h.1 (mul-le-mul_right (down e) few))

cut_few : (n w : ℕ) (x : Float) → IsUpTo n x → n ≤ 2 ^ 53 → w ≡ cut x → w ≤ 2 ^ 53
cut_few n w nan h few e = absurd h
cut_few n w (inf s) h few e = absurd h
cut_few n w (fin s m d) h few e = let q : m * up d / down d ≤ n = div-le_of_le-mul (down d) (let z = h.1 in omega arith) in omega arith

pub difference_up_to : (n w : ℕ) (x : Float) → IsUpTo n x → n ≤ 2 ^ 53 → w ≡ cut x → IsUpTo 1 (sub binary64 x (whole_double w))
unfolding of_int
difference_up_to n w x h few e = difference w x (round binary64 false w 1) (wider n x h few) e (round_whole binary64 false w (cut_few n w x h few e))

-- The cast of such a number.
pub cast_is : (n : ℕ) (x : Float) → IsUpTo n x → n < 2 ^ 32 → (float_to_unsigned w32 x ≡ cut x) × (cut x ≤ n)
unfolding to_unsigned
cast_is n nan h few = absurd h
cast_is n (inf s) h few = absurd h
cast_is n (fin true m e) h few = absurd (let z = h.0 in cc)
cast_is n (fin false m e) h few =
    let q : m * up e / down e ≤ n = div-le_of_le-mul (down e) (let z = h.1 in omega arith) in
    let k : m * up e / down e ≤ 2 ^ 32 - 1 = omega arith in
    (min-eq_left k, q)

-- Ten times the digits behind the point.
pub scaled_up_to : (x : Float) (d : ℕ) → IsUpTo 1 x → d ≤ 8 → IsUpTo (10 ^ d * 10) (scaled x d)
scaled_up_to x d h few =
    let t : 10 ^ d ≤ 10 ^ 8 = pow-le-pow_right (lit< tt) few in
    let one : 1 * 10 ^ d ≡ 10 ^ d = omega arith in
    product_up_to (10 ^ d) 10 (mul binary64 x (whole_double (10 ^ d)))
    (subst (λ (n : ℕ). IsUpTo n (mul binary64 x (whole_double (10 ^ d)))) one (product_up_to 1 (10 ^ d) x h (omega arith) (omega arith))) (lit≤ tt) (omega arith)

pub scaled_few : (d : ℕ) → d ≤ 8 → 10 ^ d * 10 < 2 ^ 32
scaled_few d few = let t : 10 ^ d ≤ 10 ^ 8 = pow-le-pow_right (lit< tt) few in omega arith
