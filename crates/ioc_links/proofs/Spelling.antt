-- A printed database link reads back as the same link.
use Rattle.std.proofs.Common.{◌≡◌, ℕ, ◌≤◌, Bool, true, false, cond, eqb, ltb, ◌&&◌, ◌||◌, List, [], ◌∷◌, ◌++◌, Option, Some, None, is_some, pos, neg_ℤ, refl, sym, ap, ◌∙◌, inl, inr, arith}
use Rattle.std.specs.Prelude.{option_map}
use Rattle.std.specs.List.{AllByRecursion}
use Rattle.std.specs.Char.{digit_value}
use Rattle.std.proofs.lemmas.Bool.{cases_Bool, le-ltb, eqb-true, or_cases, and_left, and_right, true≢false}
use Rattle.ioc_values.specs.Number.{numeral, all_digits, magnitude, signed}
use Rattle.ioc_values.proofs.Numerals.{some_numeral}
use Rattle.ioc_links.specs.declared.class.Class.{Class}
use Rattle.ioc_links.specs.declared.class.Class.TheVariants.{Digit, Point, Mark, Blank}
use Rattle.ioc_links.specs.Classes.{in_class, all_of, front_of, back_of}
use Rattle.ioc_links.specs.Words.{words}
use Rattle.ioc_links.specs.Grammar.{without_sign, is_some_of, mantissa_at, is_mantissa, float_at, is_float}
use Rattle.ioc_links.proofs.WordLemmas.{words_first}

-- ---- A text with a point in it is no number

and_false : (s t : Bool) → t ≡ false → (s && t) ≡ false
and_false true t e = e
and_false false t e = refl

digits_stop : (radix : ℕ) (xs ys : List ℕ) → radix ≤ 36 → all_digits radix (xs ++ 46 ∷ ys) ≡ false
digits_stop radix [] ys h = rw (le-ltb 36 radix h) refl
digits_stop radix (x ∷ xs) ys h = and_false (ltb (digit_value x) radix) _ (digits_stop radix xs ys h)

none_from : (o : Option ℕ) → is_some o ≡ false → o ≡ None
none_from None h = refl
none_from (Some x) h = absurd cc

numeral_stops : (radix : ℕ) (xs ys : List ℕ) → radix ≤ 36 → numeral radix (xs ++ 46 ∷ ys) ≡ None
numeral_stops radix [] ys h = none_from _ (some_numeral radix 46 ys ∙ digits_stop radix [] ys h)
numeral_stops radix (x ∷ xs) ys h = none_from _ (some_numeral radix x (xs ++ 46 ∷ ys) ∙ digits_stop radix (x ∷ xs) ys h)

both_none : (b : Bool) (o p : Option ℕ) → o ≡ None → p ≡ None → cond b o p ≡ None
both_none true o p h k = h
both_none false o p h k = k

other_none : (b : Bool) (o p : Option ℕ) → p ≡ None → cond (b && false) o p ≡ None
other_none true o p k = k
other_none false o p k = k

magnitude_stops : (xs ys : List ℕ) → magnitude (xs ++ 46 ∷ ys) ≡ None
unfolding magnitude
magnitude_stops [] [] = refl
magnitude_stops [] (d ∷ ds) = numeral_stops 10 [] (d ∷ ds) (omega arith)
magnitude_stops (c ∷ []) ys = other_none (eqb c 48) (numeral 16 ys) (numeral 10 (c ∷ 46 ∷ ys)) (numeral_stops 10 (c ∷ []) ys (omega arith))
magnitude_stops (c ∷ d ∷ zs) ys = both_none ((eqb c 48) && (eqb d 120)) (numeral 16 (zs ++ 46 ∷ ys)) (numeral 10 (c ∷ d ∷ (zs ++ 46 ∷ ys))) (numeral_stops 16 zs ys (omega arith)) (numeral_stops 10 (c ∷ d ∷ zs) ys (omega arith))

three : (a b : Bool) (o p : Option ℕ) → o ≡ None → p ≡ None → cond a (option_map (λ n. neg_ℤ (pos n)) o) (cond b (option_map pos o) (option_map pos p)) ≡ None
three true b o p h k = rw h refl
three false true o p h k = rw h refl
three false false o p h k = rw k refl

pub signed_stops : (c : ℕ) (cs ys : List ℕ) → signed (c ∷ (cs ++ 46 ∷ ys)) ≡ None
unfolding signed
signed_stops c cs ys = three (eqb c 45) (eqb c 43) _ _ (magnitude_stops cs ys) (magnitude_stops (c ∷ cs) ys)

-- ---- A text with a space in it is no decimal number

abbrev pub has_space : List ℕ → Bool
has_space [] = false
has_space (b ∷ bs) = eqb b 32 || has_space bs

abbrev rest_of : List ℕ → List ℕ
rest_of [] = []
rest_of (b ∷ bs) = bs

not_space : (k : Class) (b : ℕ) → in_class k 32 ≡ false → in_class k b ≡ true → eqb b 32 ≡ false
not_space k b o h =
    elim (cases_Bool (eqb b 32)) [
      | inl is ↦ let e : in_class k b ≡ false = ap (in_class k) (eqb-true b 32 is) ∙ o in absurd (true≢false (sym h ∙ e))
      | inr is ↦ is
    ]

none_of : (k : Class) → in_class k 32 ≡ false → (bs : List ℕ) → has_space bs ≡ true → all_of k bs ≡ false
none_of k o [] h = absurd cc
none_of k o (b ∷ bs) h =
    elim (or_cases (eqb b 32) (has_space bs) h) [
      | inl is ↦ and_left (in_class k b) (all_of k bs) (ap (in_class k) (eqb-true b 32 is) ∙ o)
      | inr later ↦ and_right (in_class k b) (all_of k bs) (none_of k o bs later)
    ]

or_regroup : (a b c d : Bool) → d ≡ (b || c) → (a || d) ≡ ((a || b) || c)
or_regroup true b c d e = refl
or_regroup false b c d e = e

parted : (k : Class) → in_class k 32 ≡ false → (bs : List ℕ) → has_space bs ≡ (has_space (front_of k bs) || has_space (rest_of (back_of k bs)))
parted k o [] = refl
parted k o (b ∷ bs) =
    elim (cases_Bool (in_class k b)) [
      | inl is ↦ rw is (ap (λ t. t || has_space bs) (not_space k b o is))
      | inr is ↦ rw is (or_regroup (eqb b 32) (has_space (front_of k bs)) (has_space (rest_of (back_of k bs))) (has_space bs) (parted k o bs))
    ]

or_nil : (a : Bool) → (a || false) ≡ true → a ≡ true
or_nil true h = refl
or_nil false h = h

some_space : (bs : List ℕ) → has_space bs ≡ true → is_some_of Digit bs ≡ false
unfolding in_class
some_space [] h = absurd cc
some_space (b ∷ bs) h = none_of Digit refl (b ∷ bs) h

space_among : (xs ys : List ℕ) → has_space (xs ++ ys) ≡ (has_space xs || has_space ys)
space_among [] ys = refl
space_among (x ∷ xs) ys = or_regroup (eqb x 32) (has_space xs) (has_space ys) (has_space (xs ++ ys)) (space_among xs ys)

mantissa_space_at : (whole back : List ℕ) → (has_space whole || has_space (rest_of back)) ≡ true → mantissa_at whole back ≡ false
mantissa_space_at whole [] h = some_space whole (or_nil (has_space whole) h)
mantissa_space_at whole (p ∷ part) h = some_space (whole ++ part) (space_among whole part ∙ h)

mantissa_space : (bs : List ℕ) → has_space bs ≡ true → is_mantissa bs ≡ false
unfolding is_mantissa in_class
mantissa_space bs h = mantissa_space_at (front_of Point bs) (back_of Point bs) (sym (parted Point refl bs) ∙ h)

sign_step : (t : Bool) (b : ℕ) (bs : List ℕ) → ((eqb b 43) || (eqb b 45)) ≡ t → has_space (cond t bs (b ∷ bs)) ≡ (eqb b 32 || has_space bs)
sign_step false b bs h = refl
sign_step true b bs h =
    let e : eqb b 32 ≡ false = elim (or_cases (eqb b 43) (eqb b 45) h) [ inl is ↦ rw (eqb-true b 43 is) refl | inr is ↦ rw (eqb-true b 45 is) refl ] in
    sym (ap (λ t. t || has_space bs) e)

sign_space : (bs : List ℕ) → has_space (without_sign bs) ≡ has_space bs
sign_space [] = refl
sign_space (b ∷ bs) = sign_step _ b bs refl

float_space_at : (number back : List ℕ) → (has_space number || has_space (rest_of back)) ≡ true → float_at number back ≡ false
float_space_at number [] h = mantissa_space number (or_nil (has_space number) h)
float_space_at number (mark ∷ power) h =
    elim (or_cases (has_space number) (has_space power) h) [
      | inl is ↦ and_left (is_mantissa number) _ (mantissa_space number is)
      | inr is ↦ and_right (is_mantissa number) _ (some_space (without_sign power) (sign_space power ∙ is))
    ]

pub float_space : (bs : List ℕ) → has_space bs ≡ true → is_float bs ≡ false
unfolding is_float in_class
float_space bs h = float_space_at (front_of Mark (without_sign bs)) (back_of Mark (without_sign bs)) (sym (parted Mark refl (without_sign bs)) ∙ sign_space bs ∙ h)

or_true : (a : Bool) → (a || true) ≡ true
or_true true = refl
or_true false = refl

pub space_within : (xs ys : List ℕ) → has_space (xs ++ 32 ∷ ys) ≡ true
space_within [] ys = refl
space_within (x ∷ xs) ys = ap (λ t. eqb x 32 || t) (space_within xs ys) ∙ or_true (eqb x 32)

-- ---- A cut at the first of a class

abbrev pub Outside : Class → List ℕ → Type 0
Outside k xs = AllByRecursion (λ b. in_class k b ≡ false) xs

pub front_cut : (k : Class) (xs : List ℕ) (c : ℕ) (ys : List ℕ) → Outside k xs → in_class k c ≡ true → front_of k (xs ++ c ∷ ys) ≡ xs
front_cut k [] c ys o h = rw h refl
front_cut k (x ∷ xs) c ys o h = rw o.0 (ap (λ l. x ∷ l) (front_cut k xs c ys o.1 h))

pub back_cut : (k : Class) (xs : List ℕ) (c : ℕ) (ys : List ℕ) → Outside k xs → in_class k c ≡ true → back_of k (xs ++ c ∷ ys) ≡ c ∷ ys
back_cut k [] c ys o h = rw h refl
back_cut k (x ∷ xs) c ys o h = rw o.0 (back_cut k xs c ys o.1 h)

pub outside_append : (k : Class) (xs ys : List ℕ) → Outside k xs → Outside k ys → Outside k (xs ++ ys)
outside_append k [] ys o p = p
outside_append k (x ∷ xs) ys o p = (o.0, outside_append k xs ys o.1 p)

pub word_cut : (x : ℕ) (xs ys : List ℕ) → Outside Blank (x ∷ xs) → words (x ∷ (xs ++ 32 ∷ ys)) ≡ (x ∷ xs) ∷ words ys
unfolding in_class
word_cut x xs ys o =
    words_first x (xs ++ 32 ∷ ys) o.0 ∙ ap (λ (l : List ℕ). l ∷ words (back_of Blank (x ∷ (xs ++ 32 ∷ ys)))) (front_cut Blank (x ∷ xs) 32 ys o refl)
    ∙ ap (λ (l : List ℕ). (x ∷ xs) ∷ words l) (back_cut Blank (x ∷ xs) 32 ys o refl)
