-- The test for decimal numbers holds of those that the grammar puts together.
use Rattle.std.proofs.Common.{◌≡◌, ℕ, ◌<◌, ◌==◌, ◌⊎◌, Bool, true, false, cond, ◌&&◌, ◌||◌, nat_le, nat_lt, List, [], ◌∷◌, ◌++◌, length, inl, inr, refl, sym, ap, subst, ◌∙◌, arith}
use Rattle.std.proofs.lemmas.Bool.{le-leb, leb-true, eqb-true}
use Rattle.std.proofs.lemmas.List.{append-nil}
use Rattle.std.proofs.lemmas.Str.{digit_value_digit}
use Rattle.std.proofs.lemmas.Str.Parse.{digit_from_value}
use Rattle.std.specs.Char.{is_ascii_digit, digit_value}
use Rattle.std.specs.Float.Parse.{float_scan_step, completes_number}
use Rattle.std.specs.Str.Parse.{AllDigits}
use Rattle.ioc_double.specs.Grammar.{IsSign, IsExponentPart, IsDecimal, without, marked, whole, pointed}
use Rattle.ioc_double.proofs.Longest.{lost}

digit_test : (c : ℕ) → digit_value c < 10 → is_ascii_digit c ≡ true
digit_test c h = let r = digit_from_value c h in rw (le-leb 48 c r.0, le-leb c 57 r.1) refl

both : (a b : Bool) → (a && b) ≡ true → (a ≡ true) × (b ≡ true)
both true b h = (refl, h)
both false b h = absurd cc

test_digit : (c : ℕ) → is_ascii_digit c ≡ true → digit_value c < 10
test_digit c h =
    let b = both (nat_le 48 c) (nat_le c 57) h in
    let l = leb-true 48 c b.0 in
    let u = leb-true c 57 b.1 in
    let v = digit_value_digit c (l, u) in
    omega arith

-- ---- what the grammar puts together is read

-- where digits lead from s
abbrev after_digit : ℕ → ℕ
after_digit s = cond (nat_lt s 2) 1 (cond (nat_lt s 4) 3 (cond (nat_lt s 7) 6 7))

digit_step : (s c : ℕ) → digit_value c < 10 → float_scan_step s c ≡ after_digit s
digit_step s c h = rw (digit_test c h) refl

digits_stay : (t : ℕ) (ds rest : List ℕ) → after_digit t ≡ t → AllDigits 10 ds → completes_number t (ds ++ rest) ≡ completes_number t rest
digits_stay t [] rest e h = refl
digits_stay t (d ∷ ds) rest e h = ap (λ (s : ℕ). completes_number s (ds ++ rest)) (digit_step t d h.0 ∙ e) ∙ digits_stay t ds rest e h.1

digits_lead : (s t : ℕ) (ds rest : List ℕ) → after_digit s ≡ t → after_digit t ≡ t → AllDigits 10 ds → 0 < length ds → completes_number s (ds ++ rest) ≡ completes_number t rest
digits_lead s t [] rest e q h k = absurd (omega arith)
digits_lead s t (d ∷ ds) rest e q h k = ap (λ (u : ℕ). completes_number u (ds ++ rest)) (digit_step s d h.0 ∙ e) ∙ digits_stay t ds rest q h.1

all_exponent : (s : ℕ) (digits : List ℕ) → after_digit s ≡ 6 → AllDigits 10 digits → 0 < length digits → completes_number s digits ≡ true
all_exponent s digits e h k = ap (λ (l : List ℕ). completes_number s l) (sym (append-nil digits)) ∙ digits_lead s 6 digits [] e refl h k

signed_exponent : (sign digits : List ℕ) → IsSign sign → AllDigits 10 digits → 0 < length digits → completes_number 4 (sign ++ digits) ≡ true
signed_exponent sign digits (inl e) h k = rw e (all_exponent 4 digits refl h k)
signed_exponent sign digits (inr (inl e)) h k = rw e (all_exponent 5 digits refl h k)
signed_exponent sign digits (inr (inr e)) h k = rw e (all_exponent 5 digits refl h k)

-- from a whole part or a fraction
exponent_read : (rest : List ℕ) → IsExponentPart rest → (completes_number 1 rest ≡ true) × (completes_number 3 rest ≡ true)
exponent_read [] without = (refl, refl)
exponent_read _ (marked mark sign digits (inl m) s h k) = rw m (signed_exponent sign digits s h k, signed_exponent sign digits s h k)
exponent_read _ (marked mark sign digits (inr m) s h k) = rw m (signed_exponent sign digits s h k, signed_exponent sign digits s h k)

pub grammar_read : (t : List ℕ) → IsDecimal t → completes_number 0 t ≡ true
grammar_read _ (whole digits rest h k e) = digits_lead 0 1 digits rest refl refl h k ∙ (exponent_read rest e).0
grammar_read _ (pointed [] fraction rest h f k e) = digits_lead 2 3 fraction rest refl refl f (omega arith) ∙ (exponent_read rest e).1
grammar_read _ (pointed (d ∷ digits) fraction rest h f k e) =
    digits_lead 0 1 (d ∷ digits) (46 ∷ (fraction ++ rest)) refl refl h (omega arith) ∙ digits_stay 3 fraction rest refl f ∙ (exponent_read rest e).1

-- ---- what is read the grammar puts together

-- A byte that is no digit, from the state s.
other_step : (s c : ℕ) → is_ascii_digit c ≡ false
    → float_scan_step s c
    ≡ cond (c == 46) (cond (nat_lt s 2) (cond (s == 0) 2 3) 7) (cond (c == 101 || c == 69) (cond (s == 1 || s == 3) 4 7) (cond ((c == 43 || c == 45) && s == 4) 5 7))
other_step s c h = rw h refl

-- Where only digits go on.
abbrev no_number : ℕ
no_number = 7

only_digits : (p e q : Bool) → cond p 7 (cond e 7 (cond (q && false) 5 7)) ≡ no_number
only_digits true e q = refl
only_digits false true q = refl
only_digits false false true = refl
only_digits false false false = refl

stuck : (s c : ℕ) (cs : List ℕ) → float_scan_step s c ≡ 7 → completes_number s (c ∷ cs) ≡ true → ⊥
stuck s c cs e h = let z : completes_number 7 cs ≡ true = subst (λ (t : ℕ). completes_number t cs ≡ true) e h in let w = lost cs in cc

next : (s t c : ℕ) (cs : List ℕ) → float_scan_step s c ≡ t → completes_number s (c ∷ cs) ≡ true → completes_number t cs ≡ true
next s t c cs e h = subst (λ (u : ℕ). completes_number u cs ≡ true) e h

cases : (b : Bool) → (b ≡ true) ⊎ (b ≡ false)
cases true = inl refl
cases false = inr refl

either_is : (c a b : ℕ) → (c == a || c == b) ≡ true → (c ≡ a) ⊎ (c ≡ b)
either_is c a b h = go (c == a) refl h
  where
    go : (x : Bool) → (c == a) ≡ x → (x || c == b) ≡ true → (c ≡ a) ⊎ (c ≡ b)
    go true e k = inl (eqb-true c a e)
    go false e k = inr (eqb-true c b k)

read_exponent : (cs : List ℕ) → completes_number 6 cs ≡ true → AllDigits 10 cs
read_exponent [] h = tt
read_exponent (c ∷ cs) h = go (is_ascii_digit c) refl (λ e. read_exponent cs (next 6 6 c cs (digit_step 6 c (test_digit c e)) h))
  where
    go : (b : Bool) → is_ascii_digit c ≡ b → (is_ascii_digit c ≡ true → AllDigits 10 cs) → AllDigits 10 (c ∷ cs)
    go true e f = (test_digit c e, f e)
    go false e f = absurd (stuck 6 c cs (other_step 6 c e ∙ only_digits (c == 46) (c == 101 || c == 69) (c == 43 || c == 45)) h)

read_signed : (cs : List ℕ) → completes_number 5 cs ≡ true → AllDigits 10 cs × (0 < length cs)
read_signed [] h = absurd cc
read_signed (c ∷ cs) h =
    elim (cases (is_ascii_digit c)) [
      | inl e ↦ ((test_digit c e, read_exponent cs (next 5 6 c cs (digit_step 5 c (test_digit c e)) h)), omega arith)
      | inr e ↦ absurd (stuck 5 c cs (other_step 5 c e ∙ only_digits (c == 46) (c == 101 || c == 69) (c == 43 || c == 45)) h)
    ]

record AfterMark (cs : List ℕ) : Type 0 where
  sign : List ℕ
  digits : List ℕ
  is : cs ≡ sign ++ digits
  is_sign : IsSign sign
  all : AllDigits 10 digits
  some : 0 < length digits

as_sign : (c : ℕ) → (c ≡ 43) ⊎ (c ≡ 45) → IsSign (c ∷ [])
as_sign c (inl e) = inr (inl (ap (λ (x : ℕ). x ∷ []) e))
as_sign c (inr e) = inr (inr (ap (λ (x : ℕ). x ∷ []) e))

read_mark : (cs : List ℕ) → completes_number 4 cs ≡ true → AfterMark cs
read_mark [] h = absurd cc
read_mark (c ∷ cs) h =
    elim (cases (is_ascii_digit c)) [
      | inl e ↦ record {
        sign = [];
        digits = c ∷ cs;
        is = refl;
        is_sign = inl refl;
        all = (test_digit c e, read_exponent cs (next 4 6 c cs (digit_step 4 c (test_digit c e)) h));
        some = omega arith;
      }
      | inr e ↦ go (c == 46) (c == 101 || c == 69) (c == 43 || c == 45) refl (other_step 4 c e)
    ]
  where
    go : (p m q : Bool) → (c == 43 || c == 45) ≡ q → float_scan_step 4 c ≡ cond p 7 (cond m 7 (cond (q && true) 5 7)) → AfterMark (c ∷ cs)
    go true m q x k = absurd (stuck 4 c cs k h)
    go false true q x k = absurd (stuck 4 c cs k h)
    go false false false x k = absurd (stuck 4 c cs k h)
    go false false true x k =
        let r = read_signed cs (next 4 5 c cs k h) in
        record { sign = c ∷ []; digits = cs; is = refl; is_sign = as_sign c (either_is c 43 45 x); all = r.0; some = r.1 }

as_exponent : (c : ℕ) (cs : List ℕ) → (c == 101 || c == 69) ≡ true → AfterMark cs → IsExponentPart (c ∷ cs)
as_exponent c cs e a = subst (λ (l : List ℕ). IsExponentPart (c ∷ l)) (sym a.is) (marked c a.sign a.digits (either_is c 101 69 e) a.is_sign a.all a.some)

record InFraction (cs : List ℕ) : Type 0 where
  fraction : List ℕ
  rest : List ℕ
  is : cs ≡ fraction ++ rest
  all : AllDigits 10 fraction
  exponent : IsExponentPart rest

read_fraction : (cs : List ℕ) → completes_number 3 cs ≡ true → InFraction cs
read_fraction [] h = record { fraction = []; rest = []; is = refl; all = tt; exponent = without }
read_fraction (c ∷ cs) h = go (cases (is_ascii_digit c)) (λ k. read_fraction cs k)
  where
    other : (p m q : Bool) → (c == 101 || c == 69) ≡ m → float_scan_step 3 c ≡ cond p 7 (cond m 4 (cond (q && false) 5 7)) → InFraction (c ∷ cs)
    other true m q x k = absurd (stuck 3 c cs k h)
    other false true q x k = record { fraction = []; rest = c ∷ cs; is = refl; all = tt; exponent = as_exponent c cs x (read_mark cs (next 3 4 c cs k h)) }
    other false false true x k = absurd (stuck 3 c cs k h)
    other false false false x k = absurd (stuck 3 c cs k h)

    go : (is_ascii_digit c ≡ true) ⊎ (is_ascii_digit c ≡ false) → (completes_number 3 cs ≡ true → InFraction cs) → InFraction (c ∷ cs)
    go (inl e) f =
        let r = f (next 3 3 c cs (digit_step 3 c (test_digit c e)) h) in
        record { fraction = c ∷ r.fraction; rest = r.rest; is = ap (λ (l : List ℕ). c ∷ l) r.is; all = (test_digit c e, r.all); exponent = r.exponent }
    go (inr e) f = other (c == 46) (c == 101 || c == 69) (c == 43 || c == 45) refl (other_step 3 c e)

read_point : (cs : List ℕ) → completes_number 2 cs ≡ true → (r : InFraction cs) × (0 < length r.fraction)
read_point [] h = absurd cc
read_point (c ∷ cs) h =
    elim (cases (is_ascii_digit c)) [
      | inl e ↦
          let r = read_fraction cs (next 2 3 c cs (digit_step 2 c (test_digit c e)) h) in
          (record { fraction = c ∷ r.fraction; rest = r.rest; is = ap (λ (l : List ℕ). c ∷ l) r.is; all = (test_digit c e, r.all); exponent = r.exponent }, omega arith)
      | inr e ↦ absurd (stuck 2 c cs (other_step 2 c e ∙ only_digits (c == 46) (c == 101 || c == 69) (c == 43 || c == 45)) h)
    ]

data Tail : List ℕ → Type 0 where
  plain : (digits rest : List ℕ) → AllDigits 10 digits → IsExponentPart rest → Tail (digits ++ rest)
  point : (digits fraction rest : List ℕ) → AllDigits 10 digits → AllDigits 10 fraction → IsExponentPart rest → Tail (digits ++ 46 ∷ (fraction ++ rest))

with_digit : (c : ℕ) (cs : List ℕ) → digit_value c < 10 → Tail cs → Tail (c ∷ cs)
with_digit c _ h (plain digits rest a e) = plain (c ∷ digits) rest (h, a) e
with_digit c _ h (point digits fraction rest a f e) = point (c ∷ digits) fraction rest (h, a) f e

as_pointed : (c : ℕ) (cs : List ℕ) → c ≡ 46 → InFraction cs → Tail (c ∷ cs)
as_pointed c cs e r = rw (e, r.is) (point [] r.fraction r.rest tt r.all r.exponent)

read_whole : (cs : List ℕ) → completes_number 1 cs ≡ true → Tail cs
read_whole [] h = plain [] [] tt without
read_whole (c ∷ cs) h = go (cases (is_ascii_digit c)) (λ k. read_whole cs k)
  where
    other : (p m q : Bool) → (c == 46) ≡ p → (c == 101 || c == 69) ≡ m → float_scan_step 1 c ≡ cond p 3 (cond m 4 (cond (q && false) 5 7)) → Tail (c ∷ cs)
    other true m q x y k = as_pointed c cs (eqb-true c 46 x) (read_fraction cs (next 1 3 c cs k h))
    other false true q x y k = plain [] (c ∷ cs) tt (as_exponent c cs y (read_mark cs (next 1 4 c cs k h)))
    other false false true x y k = absurd (stuck 1 c cs k h)
    other false false false x y k = absurd (stuck 1 c cs k h)

    go : (is_ascii_digit c ≡ true) ⊎ (is_ascii_digit c ≡ false) → (completes_number 1 cs ≡ true → Tail cs) → Tail (c ∷ cs)
    go (inl e) f = with_digit c cs (test_digit c e) (f (next 1 1 c cs (digit_step 1 c (test_digit c e)) h))
    go (inr e) f = other (c == 46) (c == 101 || c == 69) (c == 43 || c == 45) refl refl (other_step 1 c e)

begun : (c : ℕ) (cs : List ℕ) → digit_value c < 10 → Tail cs → IsDecimal (c ∷ cs)
begun c _ h (plain digits rest a e) = whole (c ∷ digits) rest (h, a) (omega arith) e
begun c _ h (point digits fraction rest a f e) = pointed (c ∷ digits) fraction rest (h, a) f (omega arith) e

pub read_grammar : (t : List ℕ) → completes_number 0 t ≡ true → IsDecimal t
read_grammar [] h = absurd cc
read_grammar (c ∷ cs) h =
    elim (cases (is_ascii_digit c)) [
      | inl e ↦ begun c cs (test_digit c e) (read_whole cs (next 0 1 c cs (digit_step 0 c (test_digit c e)) h))
      | inr e ↦ other (c == 46) (c == 101 || c == 69) (c == 43 || c == 45) refl (other_step 0 c e)
    ]
  where
    other : (p m q : Bool) → (c == 46) ≡ p → float_scan_step 0 c ≡ cond p 2 (cond m 7 (cond (q && false) 5 7)) → IsDecimal (c ∷ cs)
    other true m q x k =
        let r = read_point cs (next 0 2 c cs k h) in
        rw (eqb-true c 46 x, r.0.is) (pointed [] r.0.fraction r.0.rest tt r.0.all (omega arith) r.0.exponent)
    other false true q x k = absurd (stuck 0 c cs k h)
    other false false true x k = absurd (stuck 0 c cs k h)
    other false false false x k = absurd (stuck 0 c cs k h)
