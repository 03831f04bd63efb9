-- Doubles cut to whole numbers.
use Rattle.std.proofs.Common.{◌≡◌, ◌≢◌, ℕ, zero, suc, ◌+◌, ◌-◌, ◌*◌, ◌/◌, ◌%◌, ◌^◌, ◌<◌, ◌≤◌, refl, ap, arith, ◌∙◌, sym, true, false, Bool, cond}
use Rattle.std.proofs.Math.Nat.{mul_assoc, mod-eq_of_lt, mod-lt, mul-add-mod_self_right, div-add-mod', mul-lt-mul_of_pos_right, mul-le-mul_left, mul-le-mul_right, mul-div_cancel}
use Rattle.std.proofs.Math.Pow.{pow-add, pow_pos, pow_mono}
use Rattle.std.proofs.lemmas.Nat.{mul-mod_first}
use Rattle.std.proofs.Math.Nat.{mul-one, div-eq_of_lt}
use Rattle.std.specs.Float.{float_is_finite}
use Rattle.std.specs.Float.Ieee.{Float, nan, inf, fin, binary64, up, down, odd, of_fields, of_bits, to_bits, top, hid, ones, fits}
use Rattle.ioc_calc.specs.Wholes.{size_of, size_of_fields, signed}
use lib.Dec.{T, leb, eqb}
use lib.Ieee.Bits.{of_bits-to_bits}
use lib.Ieee.Exact.{HasValue, odd_sign}
use lib.Ieee.Fits.{down_pos}
use lib.Ieee.Nearest.{div_same}
use lib.Ieee.Back.{round_whole}
use lib.Ieee.Positive.{positive, positive_of_value, mul_at}
use lib.Ieee.Scale.{round_same}
use Rattle.std.proofs.lemmas.Bool.{ne_eqb, lt-leb}
use Rattle.std.proofs.Common.{lit<}
use Rattle.std.specs.Prelude.{pos, neg_ℤ}
use Rattle.std.specs.Float.Ieee.{of_int, mul, neg, round, units}
use lib.Dec.{ltb}
use lib.Ieee.Fits.{round_is}
use Rattle.std.proofs.Math.Nat.{mul-mod_left, mul-pos, zero-mul}

-- ---- powers of two

pub shift_up : (q k l : ℕ) → l ≤ k → q * 2 ^ k / 2 ^ l ≡ q * 2 ^ (k - l)
shift_up q k l h =
    let e : k - l + l ≡ k = omega arith in
    ap (λ x. x / 2 ^ l) (ap (λ n. q * 2 ^ n) (sym e) ∙ ap (λ x. q * x) (pow-add 2 (k - l) l) ∙ sym (mul_assoc q (2 ^ (k - l)) (2 ^ l)))
    ∙ mul-div_cancel (q * 2 ^ (k - l)) (pow_pos l)

pub shift_down : (q k j l : ℕ) → k + j ≡ l → q * 2 ^ k / 2 ^ l ≡ q / 2 ^ j
shift_down q k j l e = div_same (q * 2 ^ k) (2 ^ l) q (2 ^ j) (pow_pos l) (pow_pos j) (mul_assoc q (2 ^ k) (2 ^ j)
    ∙ ap (λ x. q * x) (sym (pow-add 2 k j) ∙ ap (λ n. 2 ^ n) e))

-- ---- remainders

distributed : (q b r w : ℕ) → (q * b + r) * w ≡ q * (b * w) + r * w
distributed q b r w = omega arith

pub scaled_rest : (a b w : ℕ) → 0 < b → 0 < w → (a * w) % (b * w) ≡ (a % b) * w
scaled_rest a b w hb hw =
    let split : a / b * b + a % b ≡ a = div-add-mod' a b in
    let parts : a * w ≡ a / b * (b * w) + a % b * w = ap (λ x. x * w) (sym split) ∙ distributed (a / b) b (a % b) w in
    ap (λ x. x % (b * w)) parts
    ∙ mul-add-mod_self_right (a / b) (b * w) (a % b * w)
    ∙ mod-eq_of_lt (mul-lt-mul_of_pos_right (mod-lt a hb) hw)

twice_digits : (p : ℕ) → 9007199254740992 * 2 ^ p ≡ 4503599627370496 * 2 ^ (p + 1)
twice_digits p = let e = pow-add 2 p 1 in omega arith

below_by : (a b c d : ℕ) → a < b → b ≡ c → c ≤ d → a < d
below_by a b c d h e k = omega arith

-- a number below another, whose digits are as many as can be
pub smaller_rest : (a p b q : ℕ) → a < 9007199254740992 → p < q → 4503599627370496 ≤ b → a * 2 ^ p ≡ (a * 2 ^ p) % (b * 2 ^ q)
smaller_rest a p b q ha pq hb =
    let up_to : a * 2 ^ p < 9007199254740992 * 2 ^ p = mul-lt-mul_of_pos_right ha (pow_pos p) in
    let one_more : 9007199254740992 * 2 ^ p ≡ 4503599627370496 * 2 ^ (p + 1) = twice_digits p in
    let within : p + 1 ≤ q = omega arith in
    let powers : 2 ^ (p + 1) ≤ 2 ^ q = pow_mono within in
    let first : 4503599627370496 * 2 ^ (p + 1) ≤ 4503599627370496 * 2 ^ q = mul-le-mul_left 4503599627370496 powers in
    let second : 4503599627370496 * 2 ^ q ≤ b * 2 ^ q = mul-le-mul_right (2 ^ q) hb in
    let below : a * 2 ^ p < b * 2 ^ q = omega arith in
    sym (mod-eq_of_lt below)

pub larger_rest : (a p b q r : ℕ) → 0 < b → q ≤ p → r ≡ (a * 2 ^ (p - q)) % b → r * 2 ^ q ≡ (a * 2 ^ p) % (b * 2 ^ q)
larger_rest a p b q r hb qp e =
    let j : p - q + q ≡ p = omega arith in
    ap (λ x. x * 2 ^ q) e
    ∙ sym (scaled_rest (a * 2 ^ (p - q)) b (2 ^ q) hb (pow_pos q))
    ∙ ap (λ x. x % (b * 2 ^ q)) (mul_assoc a (2 ^ (p - q)) (2 ^ q) ∙ ap (λ x. a * x) (sym (pow-add 2 (p - q) q) ∙ ap (λ n. 2 ^ n) j))

pub doubled_turn : (n c d r : ℕ) → r ≡ (n * 2 ^ c) % d → (r * 2) % d ≡ (n * 2 ^ (c + 1)) % d
doubled_turn n c d r e =
    ap (λ x. (x * 2) % d) e ∙ mul-mod_first (n * 2 ^ c) 2 d ∙ ap (λ x. x % d) (mul_assoc n (2 ^ c) 2
    ∙ ap (λ x. n * x) (sym (pow-add 2 c 1)))

-- ---- fields

pub fields_high : (field t : ℕ) → 1075 ≤ field → (4503599627370496 + t) * 2 ^ (field - 1075) ≡ size_of_fields field t
fields_high zero t h = absurd (omega arith)
fields_high (suc k) t h =
    let e : suc k - 1075 ≡ k - 1074 = omega arith in
    ap (λ n. (4503599627370496 + t) * 2 ^ n) e ∙ sym (shift_up (4503599627370496 + t) k 1074 (omega arith))

pub fields_middle : (field t : ℕ) → 1023 ≤ field → field < 1075 → (4503599627370496 + t) / 2 ^ (1075 - field) * 1 ≡ size_of_fields field t
fields_middle zero t h k = absurd (omega arith)
fields_middle (suc n) t h k =
    mul-one ((4503599627370496 + t) / 2 ^ (1075 - suc n)) ∙ sym (shift_down (4503599627370496 + t) n (1075 - suc n) 1074 (omega arith))

low_size : (q k : ℕ) → q < 9007199254740992 → k ≤ 1021 → q * 2 ^ k / 2 ^ 1074 ≡ 0
low_size q k h le =
    let up_to : q * 2 ^ k < 9007199254740992 * 2 ^ k = mul-lt-mul_of_pos_right h (pow_pos k) in
    let joined : 2 ^ 53 * 2 ^ k ≡ 2 ^ (53 + k) = sym (pow-add 2 53 k) in
    let within : 53 + k ≤ 1074 = omega arith in
    let powers : 2 ^ (53 + k) ≤ 2 ^ 1074 = pow_mono {i = 53 + k} {j = 1074} within in
    div-eq_of_lt (below_by (q * 2 ^ k) (9007199254740992 * 2 ^ k) (2 ^ (53 + k)) (2 ^ 1074) up_to joined powers)

pub fields_low : (field t : ℕ) → field < 1023 → t < 4503599627370496 → 0 ≡ size_of_fields field t
fields_low zero t h k = sym (low_size t 0 (omega arith) (omega arith))
fields_low (suc n) t h k = sym (low_size (4503599627370496 + t) n (omega arith) (omega arith))

-- ---- the bits of a double

size_value : (x : Float) (s : Bool) (a c : ℕ) → HasValue x s a c → 0 < c → size_of x ≡ a / c
size_value nan s a c v h = absurd v
size_value (inf t) s a c v h = absurd v
size_value (fin t m e) s a c v h = div_same (m * up e) (down e) a c (down_pos e) h v.1

kept_size : (b c s : Bool) (x : Float) (n : ℕ) → size_of x ≡ n → float_is_finite (cond b (cond c (inf s) nan) x) ≡ true
    → size_of (cond b (cond c (inf s) nan) x) ≡ n
unfolding float_is_finite
kept_size true true s x n e h = cc
kept_size true false s x n e h = cc
kept_size false c s x n e h = e

fields_size : (s : Bool) (field t : ℕ) → float_is_finite (of_fields binary64 s field t) ≡ true
    → size_of (of_fields binary64 s field t) ≡ size_of_fields field t
unfolding of_fields
fields_size s zero t h = size_value (odd 53 s t 0 1074) s (t * 2 ^ 0) (2 ^ 1074) (odd_sign 53 s t 0 1074) (pow_pos 1074)
fields_size s (suc k) t h =
    kept_size (eqb (suc k) (ones binary64)) (eqb t 0) s (odd 53 s (hid binary64 + t) k 1074) (size_of_fields (suc k) t)
    (size_value (odd 53 s (hid binary64 + t) k 1074) s ((hid binary64 + t) * 2 ^ k) (2 ^ 1074) (odd_sign 53 s (hid binary64 + t) k 1074)
    (pow_pos 1074)) h

bits_are_fields : (b : ℕ)
    → of_bits binary64 b ≡ of_fields binary64 (leb (top binary64) b) (b % top binary64 / hid binary64) (b % hid binary64)
unfolding of_bits
bits_are_fields b = refl

pub size_of_bits : (x : Float) (b : ℕ) → T (fits binary64 x) → float_is_finite x ≡ true → b ≡ to_bits binary64 x
    → size_of_fields (b % 9223372036854775808 / 4503599627370496) (b % 4503599627370496) ≡ size_of x
size_of_bits x b f h e =
    let back : x ≡ of_bits binary64 b = sym (of_bits-to_bits binary64 x f) ∙ ap (of_bits binary64) (sym e) in
    let whole_back : x ≡ of_fields binary64 (leb (top binary64) b) (b % top binary64 / hid binary64) (b % hid binary64) = back
    ∙ bits_are_fields b in
    sym (ap size_of whole_back
    ∙ fields_size (leb (top binary64) b) (b % top binary64 / hid binary64) (b % hid binary64) (sym (ap float_is_finite whole_back)
    ∙ h))

-- ---- whole numbers as doubles

one_times : (n : ℕ) → 1 * n ≡ n
one_times n = omega arith

one_times_pos : (n : ℕ) → 0 < n → 0 < 1 * n
one_times_pos n h = omega arith

positive_of : (d : ℕ) → d ≢ 0 → 0 < d
positive_of d h = omega arith

not_all_ones : (k : ℕ) → k < 2046 → eqb (suc k) (ones binary64) ≡ false
not_all_ones k h = ne_eqb (suc k) (ones binary64) (λ e. absurd (omega arith))

no_ones : (b : Bool) (s : Bool) (x y : Float) → b ≡ false → cond b x y ≡ y
no_ones true s x y e = cc
no_ones false s x y e = refl

power_fields : (k : ℕ) → k < 2046 → of_fields binary64 false (suc k) 0 ≡ odd 53 false (hid binary64 + 0) k 1074
unfolding of_fields
power_fields k h = no_ones (eqb (suc k) (ones binary64)) false _ _ (not_all_ones k h)

power_bits : (p : ℕ) → p < 1000 → of_bits binary64 ((p + 1023) * 4503599627370496) ≡ odd 53 false (hid binary64 + 0) (p + 1022) 1074
power_bits p h =
    let below_top : (p + 1023) * 4503599627370496 < 9223372036854775808 = omega arith in
    let sign : leb (top binary64) ((p + 1023) * 4503599627370496) ≡ false = lt-leb (top binary64)
    ((p + 1023) * 4503599627370496) below_top in
    let field : (p + 1023) * 4503599627370496 % 9223372036854775808 / 4503599627370496 ≡ suc (p + 1022) = omega arith in
    let digits : (p + 1023) * 4503599627370496 % hid binary64 ≡ 0 = mul-mod_left (p + 1023) (hid binary64) in
    bits_are_fields ((p + 1023) * 4503599627370496)
    ∙ ap (λ s. of_fields binary64 s ((p + 1023) * 4503599627370496 % top binary64 / hid binary64)
    ((p + 1023) * 4503599627370496 % hid binary64)) sign
    ∙ ap (λ n. of_fields binary64 false n ((p + 1023) * 4503599627370496 % hid binary64)) field
    ∙ ap (λ n. of_fields binary64 false (suc (p + 1022)) n) digits
    ∙ power_fields (p + 1022) (omega arith)

powers_meet : (d p : ℕ) → d * ((hid binary64 + 0) * 2 ^ (p + 1022)) * 1 ≡ (d * 2 ^ p) * (1 * 2 ^ 1074)
powers_meet d p =
    let one : 2 ^ 52 * 2 ^ (p + 1022) ≡ 2 ^ (52 + (p + 1022)) = sym (pow-add 2 52 (p + 1022)) in
    let two : 2 ^ p * 2 ^ 1074 ≡ 2 ^ (p + 1074) = sym (pow-add 2 p 1074) in
    let same : 52 + (p + 1022) ≡ p + 1074 = omega arith in
    let meet : 2 ^ 52 * 2 ^ (p + 1022) ≡ 2 ^ p * 2 ^ 1074 = one ∙ ap (λ n. 2 ^ n) same ∙ sym two in
    mul-one (d * ((hid binary64 + 0) * 2 ^ (p + 1022)))
    ∙ ap (λ x. d * x) meet ∙ sym (mul_assoc d (2 ^ p) (2 ^ 1074)) ∙ ap (λ x. (d * 2 ^ p) * x) (sym (one_times (2 ^ 1074)))

whole_value : (d : ℕ) → d < 9007199254740992 → HasValue (of_int binary64 (pos d)) false d 1
unfolding of_int
whole_value d h = round_whole binary64 false d (omega arith)

as_rounded : (n : ℕ) → round binary64 false n 1 ≡ of_int binary64 (pos n)
unfolding of_int
as_rounded n = refl

pub product_is : (d p : ℕ) → 0 < d → d < 9007199254740992 → p < 1000
    → mul binary64 (of_int binary64 (pos d)) (of_bits binary64 ((p + 1023) * 4503599627370496)) ≡ of_int binary64 (pos (d * 2 ^ p))
product_is d p hd small hp =
    let x : Float = of_int binary64 (pos d) in
    let y : Float = odd 53 false (hid binary64 + 0) (p + 1022) 1074 in
    let a : ℕ = (hid binary64 + 0) * 2 ^ (p + 1022) in
    let vx : HasValue x false d 1 = whole_value d small in
    let vy : HasValue y false a (2 ^ 1074) = odd_sign 53 false (hid binary64 + 0) (p + 1022) 1074 in
    let py : T (positive y) = positive_of_value y a (2 ^ 1074) vy (mul-pos (lit< tt) (pow_pos (p + 1022))) in
    ap (λ z. mul binary64 x z) (power_bits p hp)
    ∙ mul_at binary64 x y d 1 a (2 ^ 1074) (positive_of_value x d 1 vx hd) py (lit< tt) (pow_pos 1074) vx vy
    ∙ round_same binary64 false (d * a) (1 * 2 ^ 1074) (d * 2 ^ p) 1 (one_times_pos (2 ^ 1074) (pow_pos 1074)) (lit< tt) (powers_meet d p)
    ∙ as_rounded (d * 2 ^ p)

neg-odd : (d q k l : ℕ) → neg (odd d false q k l) ≡ odd d true q k l
unfolding neg odd
neg-odd d zero k l = refl
neg-odd d (suc q) k l = refl

neg-cond : (b : Bool) (q k : ℕ) → neg (cond b (odd 54 false q k 1074) (inf false)) ≡ cond b (odd 54 true q k 1074) (inf true)
unfolding neg
neg-cond true q k = neg-odd 54 q k 1074
neg-cond false q k = refl

neg-units : (q k : ℕ) → neg (units binary64 false q k) ≡ units binary64 true q k
unfolding units
neg-units q k = neg-cond (ltb (q * 2 ^ k) (2 ^ (1074 + suc 1023))) q k

neg-round : (a c : ℕ) → neg (round binary64 false a c) ≡ round binary64 true a c
neg-round a c = ap neg (round_is binary64 false a c) ∙ neg-units _ _ ∙ sym (round_is binary64 true a c)

pub negated_is : (n : ℕ) → 0 < n → neg (of_int binary64 (pos n)) ≡ of_int binary64 (neg_ℤ (pos n))
unfolding of_int
negated_is zero h = absurd (omega arith)
negated_is (suc n) h = neg-round (suc n) 1

pub nan_is : of_bits binary64 0x7FF8000000000000 ≡ nan
unfolding of_bits of_fields
nan_is = refl

pub no_size : (d p n : ℕ) → d * 2 ^ p ≡ n → d ≢ 0 → n ≢ 0
no_size d p n e h = λ z. let positive_size = mul-pos (positive_of d h) (pow_pos p) in omega arith

pub signed_zero : (b : Bool) (d p : ℕ) → d ≡ 0 → of_int binary64 (pos 0) ≡ signed b (d * 2 ^ p)
unfolding signed
signed_zero true d p e = ap (λ n. of_int binary64 (neg_ℤ (pos n))) (sym (ap (λ x. x * 2 ^ p) e ∙ zero-mul (2 ^ p)))
signed_zero false d p e = ap (λ n. of_int binary64 (pos n)) (sym (ap (λ x. x * 2 ^ p) e ∙ zero-mul (2 ^ p)))

pub signed_negative : (b : Bool) (d p : ℕ) (x : Float) → b ≡ true → d ≢ 0 → x ≡ of_int binary64 (pos (d * 2 ^ p))
    → neg x ≡ signed b (d * 2 ^ p)
unfolding signed
signed_negative true d p x h some e = ap neg e ∙ negated_is (d * 2 ^ p) (mul-pos (positive_of d some) (pow_pos p))
signed_negative false d p x h some e = cc

pub signed_positive : (b : Bool) (d p : ℕ) (x : Float) → b ≡ false → x ≡ of_int binary64 (pos (d * 2 ^ p)) → x ≡ signed b (d * 2 ^ p)
unfolding signed
signed_positive true d p x h e = cc
signed_positive false d p x h e = e
