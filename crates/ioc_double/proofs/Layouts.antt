-- What the layout of a double says of its size.
use Rattle.std.proofs.Common.{◌≡◌, ℕ, ◌*◌, ◌^◌, ◌<◌, ◌≤◌, Bool, true, false, ◌&&◌, ◌||◌, cond, nat_le, pos, refl, subst, arith, codes}
use Rattle.std.proofs.lemmas.Bool.{ltb-true, ltb-false, eqb-true, eqb-false, leb-true}
use Rattle.std.specs.Float.{float_is_finite, float_is_infinite, float_with_sign}
use Rattle.std.specs.Float.Ieee.{Float, nan, inf, fin, of_int, round, size, span, climb, units, odd, lt, le, eq, is_nan, up, down}
use Rattle.std.specs.Float.Ieee.Positive.{num, den}
use Rattle.ioc_double.specs.declared.text.Layout.TheVariants.{Fixed, Rounded, NotANumber, Padded}
use Rattle.ioc_double.specs.Size.{whole_double, IsUpTo}
use Rattle.ioc_double.specs.Nearest.{nearest_decimal}
use Rattle.ioc_double.specs.Pieces.{scientific_text}
use Rattle.ioc_double.specs.Text.{size_of, layout_of, wide_text}
use lib.Count.{count_trailing_zeros}
use lib.Dec.{ltb, eqb}

fixed_case : (a b c : Bool) → Fixed ≡ cond a Fixed (cond b Rounded (cond c NotANumber Padded)) → a ≡ true
fixed_case true b c h = refl
fixed_case false true c h = absurd cc
fixed_case false false true h = absurd cc
fixed_case false false false h = absurd cc

rounded_case : (a b c : Bool) → Rounded ≡ cond a Fixed (cond b Rounded (cond c NotANumber Padded)) → (a ≡ false) × (b ≡ true)
rounded_case true b c h = absurd cc
rounded_case false true c h = (refl, refl)
rounded_case false false true h = absurd cc
rounded_case false false false h = absurd cc

both_first : (a b : Bool) → (a && b) ≡ true → a ≡ true
both_first true b h = refl
both_first false b h = absurd cc

one_of_two : (a p q : Bool) → (a && p) ≡ false → (a && q) ≡ true → (p ≡ false) × (q ≡ true)
one_of_two true p q h k = (h, k)
one_of_two false p q h k = absurd cc

pub fixed_digits : (x : Float) (d : ℕ) → Fixed ≡ layout_of x d → d ≤ 8
unfolding layout_of
fixed_digits x d h = leb-true d 8 (both_first (nat_le d 8) (le (size_of x) (whole_double (10 ^ 7))) (fixed_case _ _ _ h))

rounded_tests : (x : Float) (d : ℕ) → Rounded ≡ layout_of x d → (le (size_of x) (whole_double (10 ^ 7)) ≡ false) × (le (size_of x) (whole_double (10 ^ 16)) ≡ true)
unfolding layout_of
rounded_tests x d h = let r = rounded_case _ _ _ h in one_of_two (nat_le d 8) (le (size_of x) (whole_double (10 ^ 7))) (le (size_of x) (whole_double (10 ^ 16))) r.0 r.1

ten_million : whole_double (10 ^ 7) ≡ fin false 78125 (pos 7)
unfolding of_int round size span climb units odd count_trailing_zeros
ten_million = refl

ten_quadrillion : whole_double (10 ^ 16) ≡ fin false 152587890625 (pos 16)
unfolding of_int round size span climb units odd count_trailing_zeros
ten_quadrillion = refl

above : (a b : ℕ) (t : Bool) → (ltb a b || (eqb a b && t)) ≡ false → t ≡ true → b < a
above a b t h one = go (ltb a b) (eqb a b) refl refl h
  where
    go : (p q : Bool) → ltb a b ≡ p → eqb a b ≡ q → (p || (q && t)) ≡ false → b < a
    go true q x y k = absurd cc
    go false true x y k = absurd cc
    go false false x y k =
        let z : b ≤ a = ltb-false a b x in
        let n : ¬ (a ≡ b) = eqb-false a b y in
        omega arith

at_most : (a b : ℕ) (t : Bool) → (ltb a b || (eqb a b && t)) ≡ true → a ≤ b
at_most a b t h = go (ltb a b) (eqb a b) refl refl h
  where
    go : (p q : Bool) → ltb a b ≡ p → eqb a b ≡ q → (p || (q && t)) ≡ true → a ≤ b
    go true q x y k = let z : a < b = ltb-true a b x in omega arith
    go false true x y k = let z : a ≡ b = eqb-true a b y in omega arith
    go false false x y k = absurd cc

abbrev pub IsBetween : Float → Type 0
IsBetween y = (float_is_finite y ≡ true) × (10 ^ 7 * den y < num y) × (num y ≤ 10 ^ 16 * den y)

between : (x : Float) → le (float_with_sign false x) (fin false 78125 (pos 7)) ≡ false → le (float_with_sign false x) (fin false 152587890625 (pos 16)) ≡ true → IsBetween (float_with_sign false x)
unfolding le lt eq float_with_sign float_is_finite
between nan h k = absurd cc
between (inf s) h k = absurd cc
between (fin s m e) h k = (
  refl,
  let z = above (m * up e * 1) (78125 * 2 ^ 7 * down e) true h refl in omega arith,
  let z = at_most (m * up e * 1) (152587890625 * 2 ^ 16 * down e) true k in omega arith,
)

both_second : (a b : Bool) → (a && b) ≡ true → b ≡ true
both_second true b h = h
both_second false b h = absurd cc

up_to : (x : Float) → le (float_with_sign false x) (fin false 78125 (pos 7)) ≡ true → IsUpTo (10 ^ 7) (float_with_sign false x)
unfolding le lt eq float_with_sign
up_to nan h = absurd cc
up_to (inf s) h = absurd cc
up_to (fin s m e) h = (refl, let z = at_most (m * up e * 1) (78125 * 2 ^ 7 * down e) true h in omega arith)

pub fixed_up_to : (x : Float) (d : ℕ) → Fixed ≡ layout_of x d → IsUpTo (10 ^ 7) (size_of x)
unfolding layout_of
fixed_up_to x d h =
    up_to x
    (subst (λ (y : Float). le (size_of x) y ≡ true) ten_million
    (both_second (nat_le d 8) (le (size_of x) (whole_double (10 ^ 7))) (fixed_case _ _ _ h)))

pub rounded_between : (x : Float) (d : ℕ) → Rounded ≡ layout_of x d → IsBetween (size_of x)
rounded_between x d h =
    let t = rounded_tests x d h in
    between x (subst (λ (y : Float). le (size_of x) y ≡ false) ten_million t.0) (subst (λ (y : Float). le (size_of x) y ≡ true) ten_quadrillion t.1)

-- The text of any size.
pub wide_nan : (x : Float) (d : ℕ) (b : Bool) → b ≡ is_nan x → b ≡ true → wide_text x d ≡ codes "nan"
unfolding wide_text is_nan
wide_nan nan d b h t = refl
wide_nan (inf s) d b h t = absurd cc
wide_nan (fin s m e) d b h t = absurd cc

pub wide_infinite : (x : Float) (d : ℕ) (b : Bool) → b ≡ float_is_infinite x → b ≡ true → wide_text x d ≡ codes "inf"
unfolding wide_text float_is_infinite
wide_infinite nan d b h t = absurd cc
wide_infinite (inf s) d b h t = refl
wide_infinite (fin s m e) d b h t = absurd cc

pub is_finite : (x : Float) (a b : Bool) → a ≡ is_nan x → a ≡ false → b ≡ float_is_infinite x → b ≡ false → float_is_finite x ≡ true
unfolding is_nan float_is_infinite float_is_finite
is_finite nan a b h i k j = absurd cc
is_finite (inf s) a b h i k j = absurd cc
is_finite (fin s m e) a b h i k j = refl

pub wide_finite : (x : Float) (d : ℕ) → float_is_finite x ≡ true → wide_text x d ≡ scientific_text d (nearest_decimal d (num x) (den x))
unfolding wide_text float_is_finite
wide_finite nan d h = absurd cc
wide_finite (inf s) d h = absurd cc
wide_finite (fin s m e) d h = refl
