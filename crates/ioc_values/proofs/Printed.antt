-- A number printed in decimal reads back as the same number.
use Rattle.std.proofs.Common.{◌≡◌, ℕ, suc, ◌≤◌, ◌<◌, Bool, true, false, cond, ◌&&◌, eqb, ltb, ◌^◌, List, [], ◌∷◌, reverse, Option, Some, None, ℤ, pos, negsuc, refl, ap, ◌∙◌, arith}
use mathlib.Core.List.{reverse_aux}
use Rattle.std.specs.List.{AllByRecursion}
use Rattle.std.specs.Prelude.{FitsSigned}
use Rattle.std.specs.Int.{w64}
use Rattle.std.proofs.lemmas.Int.{ints}
use Rattle.std.specs.Fmt.{decimal, signed_decimal}
use Rattle.std.specs.Char.{digit_value}
use Rattle.std.specs.Str.Parse.{AllDigits, IsNumeral, digits_value}
use Rattle.std.proofs.lemmas.Bool.{lt-ltb, ne_eqb}
use Rattle.std.proofs.lemmas.Bool.Decides.{nat_tests}
use Rattle.std.proofs.lemmas.List.{reverse-reverse}
use Rattle.std.proofs.lemmas.Fmt.{decimal_is_IsNumeral}
use Rattle.ioc_values.specs.Trim.{is_blank, skip_front, trimmed}
use Rattle.ioc_values.specs.Number.{numeral, below, all_digits, magnitude, signed, number_of}

-- ---- Nothing to trim

abbrev pub IsSolid : Bool → List ℕ → Type 0
IsSolid tabs bs = AllByRecursion (λ b. is_blank tabs b ≡ false) bs

solid_onto : (tabs : Bool) (xs ys : List ℕ) → IsSolid tabs xs → IsSolid tabs ys → IsSolid tabs (reverse_aux xs ys)
solid_onto tabs [] ys h k = k
solid_onto tabs (x ∷ xs) ys h k = solid_onto tabs xs (x ∷ ys) h.1 (h.0, k)

skip_solid : (tabs : Bool) (xs : List ℕ) → IsSolid tabs xs → skip_front (is_blank tabs) xs ≡ xs
skip_solid tabs [] h = refl
skip_solid tabs (x ∷ xs) h = rw h.0 refl

pub trim_solid : (tabs : Bool) (xs : List ℕ) → IsSolid tabs xs → trimmed (is_blank tabs) xs ≡ xs
trim_solid tabs xs h =
    ap (λ (l : List ℕ). reverse (skip_front (is_blank tabs) (reverse l))) (skip_solid tabs xs h) ∙ ap reverse (skip_solid tabs (reverse xs) (solid_onto tabs xs [] h tt)) ∙ reverse-reverse xs

-- ---- Digits

digit_range : (c : ℕ) → digit_value c < 10 → (48 ≤ c) × (c < 58)
digit_range c h = (grind (arith, nat_tests), grind (arith, nat_tests))

digit_solid : (tabs : Bool) (c : ℕ) → 33 ≤ c → is_blank tabs c ≡ false
digit_solid true c h = rw (ne_eqb c 32 (λ e. omega arith), ne_eqb c 9 (λ e. omega arith)) refl
digit_solid false c h = rw (ne_eqb c 32 (λ e. omega arith)) refl

pub digits_solid : (tabs : Bool) (cs : List ℕ) → AllDigits 10 cs → IsSolid tabs cs
digits_solid tabs [] h = tt
digits_solid tabs (c ∷ cs) h = (digit_solid tabs c (omega (arith, digit_range c h.0)), digits_solid tabs cs h.1)

digits_all : (cs : List ℕ) → AllDigits 10 cs → all_digits 10 cs ≡ true
digits_all [] h = refl
digits_all (c ∷ cs) h = rw (lt-ltb _ _ h.0) (digits_all cs h.1)

numeral_of_digits : (c : ℕ) (cs : List ℕ) → AllDigits 10 (c ∷ cs) → numeral 10 (c ∷ cs) ≡ Some (digits_value 10 (c ∷ cs))
numeral_of_digits c cs h = ap (λ b. cond b (Some (digits_value 10 (c ∷ cs))) None) (digits_all (c ∷ cs) h)

other_way : (b e : Bool) (x y z : Option ℕ) → e ≡ false → y ≡ z → cond (b && e) x y ≡ z
other_way true e x y z is h = rw is h
other_way false e x y z is h = h

pub magnitude_of_digits : (cs : List ℕ) → IsNumeral 10 cs → magnitude cs ≡ Some (digits_value 10 cs)
unfolding magnitude
magnitude_of_digits [] h = absurd (omega (arith, h.0))
magnitude_of_digits (c ∷ []) h = numeral_of_digits c [] h.1
magnitude_of_digits (c ∷ d ∷ ds) h =
    let no_x : eqb d 120 ≡ false = ne_eqb d 120 (λ e. omega (arith, digit_range d h.1.1.0)) in
    let plain : numeral 10 (c ∷ d ∷ ds) ≡ Some (digits_value 10 (c ∷ d ∷ ds)) = numeral_of_digits c (d ∷ ds) h.1 in
    other_way (eqb c 48) (eqb d 120) (numeral 16 ds) (numeral 10 (c ∷ d ∷ ds)) _ no_x plain

signed_of_digits : (cs : List ℕ) → IsNumeral 10 cs → signed cs ≡ Some (pos (digits_value 10 cs))
unfolding signed
signed_of_digits [] h = absurd (omega (arith, h.0))
signed_of_digits (c ∷ cs) h =
    let r = digit_range c h.1.0 in
    rw (ne_eqb c 45 (λ e. omega (arith, r)), ne_eqb c 43 (λ e. omega (arith, r)), magnitude_of_digits (c ∷ cs) h) refl

signed_of_minus : (cs : List ℕ) (n : ℕ) → IsNumeral 10 cs → digits_value 10 cs ≡ suc n → signed (45 ∷ cs) ≡ Some (negsuc n)
unfolding signed
signed_of_minus cs n h e = rw (magnitude_of_digits cs h, e) refl

-- A printed number has no blanks at its ends.
pub decimal_solid : (tabs : Bool) (z : ℤ) → FitsSigned w64 z → trimmed (is_blank tabs) (signed_decimal z) ≡ signed_decimal z
decimal_solid tabs (pos n) h =
    let d = decimal_is_IsNumeral n (omega (arith, ints)) in
    trim_solid tabs (decimal n) (digits_solid tabs (decimal n) d.0.1)
decimal_solid tabs (negsuc n) h =
    let d = decimal_is_IsNumeral (suc n) (omega (arith, ints)) in
    trim_solid tabs (45 ∷ decimal (suc n)) (digit_solid tabs 45 (omega arith), digits_solid tabs (decimal (suc n)) d.0.1)

-- A printed number spells the number.
pub decimal_signed : (z : ℤ) → FitsSigned w64 z → signed (signed_decimal z) ≡ Some z
decimal_signed (pos n) h =
    let d = decimal_is_IsNumeral n (omega (arith, ints)) in
    signed_of_digits (decimal n) d.0 ∙ ap (λ k. Some (pos k)) d.1
decimal_signed (negsuc n) h =
    let d = decimal_is_IsNumeral (suc n) (omega (arith, ints)) in
    signed_of_minus (decimal (suc n)) n d.0 d.1

pub printed_again : (z : ℤ) → FitsSigned w64 z → number_of (signed_decimal z) ≡ Some z
printed_again z h = ap signed (decimal_solid false z h) ∙ decimal_signed z h

-- ---- Digits alone

and_both : (a b : Bool) → (a && b) ≡ true → (a ≡ true) × (b ≡ true)
and_both true b h = (refl, h)
and_both false b h = absurd cc

kept_is : (b : Bool) (v n : ℕ) → Some n ≡ cond b (Some v) None → v ≡ n
kept_is true v n is = cc
kept_is false v n is = cc

below_ten : (d : ℕ) → ltb d 10 ≡ true → d < 10
below_ten d h = grind (arith, nat_tests)

all_read : (cs : List ℕ) → all_digits 10 cs ≡ true → AllDigits 10 cs
all_read [] h = tt
all_read (c ∷ cs) h = let both = and_both (ltb (digit_value c) 10) (all_digits 10 cs) h in (below_ten (digit_value c) both.0, all_read cs both.1)

read_by : (b : Bool) (v n : ℕ) → Some n ≡ below (2 ^ 64) (cond b (Some v) None) → (b ≡ true) × (v ≡ n)
read_by true v n is = (refl, kept_is (ltb v (2 ^ 64)) v n is)
read_by false v n is = cc

-- Decimal digits alone spell their number: they have no sign, and nothing is trimmed.
pub plain_number : (cs : List ℕ) (n : ℕ) → Some n ≡ below (2 ^ 64) (numeral 10 cs) → number_of cs ≡ Some (pos n)
plain_number [] n is = cc
plain_number (c ∷ cs) n is =
    let r = read_by (all_digits 10 (c ∷ cs)) (digits_value 10 (c ∷ cs)) n is in
    let d = all_read (c ∷ cs) r.0 in
    ap signed (trim_solid false (c ∷ cs) (digits_solid false (c ∷ cs) d)) ∙ signed_of_digits (c ∷ cs) (omega arith, d) ∙ ap (λ k. Some (pos k)) r.1
