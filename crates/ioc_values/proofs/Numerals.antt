-- Numerals, read digit by digit.
use Rattle.std.proofs.Common.{◌≡◌, ℕ, ◌+◌, ◌*◌, ◌≤◌, Bool, true, false, cond, ◌&&◌, List, [], ◌∷◌, length, ◌<◌, Option, Some, None, is_some, ltb, refl, arith}
use Rattle.std.specs.Char.{digit_value}
use Rattle.std.specs.Str.Parse.{digits_value_after}
use Rattle.std.proofs.lemmas.Bool.{le-ltb}
use Rattle.std.proofs.Math.Nat.{mul-le-mul_left}
use Rattle.ioc_values.specs.Number.{numeral, all_digits, below}

-- The number that the digits spell after those of `n`.
abbrev pub numeral_after : ℕ → ℕ → List ℕ → Option ℕ
numeral_after radix n [] = Some n
numeral_after radix n (c ∷ cs) = cond (ltb (digit_value c) radix) (numeral_after radix (n * radix + digit_value c) cs) None

one_more : (b a : Bool) (v : ℕ) (o : Option ℕ) → o ≡ cond a (Some v) None → cond b o None ≡ cond (b && a) (Some v) None
one_more true a v o h = h
one_more false a v o h = refl

after_is : (radix n : ℕ) (cs : List ℕ) → numeral_after radix n cs ≡ cond (all_digits radix cs) (Some (digits_value_after radix n cs)) None
after_is radix n [] = refl
after_is radix n (c ∷ cs) = one_more _ _ _ _ (after_is radix (n * radix + digit_value c) cs)

-- The digits after none spell their number.
pub numeral_is : (radix : ℕ) (cs : List ℕ) → 0 < length cs → numeral_after radix 0 cs ≡ numeral radix cs
numeral_is radix [] h = absurd (omega arith)
numeral_is radix (c ∷ cs) h = after_is radix 0 (c ∷ cs)

none_either : (b : Bool) (limit : ℕ) (o : Option ℕ) → below limit o ≡ None → below limit (cond b o None) ≡ None
none_either true limit o h = h
none_either false limit o h = refl

grows : (radix n d : ℕ) → 1 ≤ radix → n ≤ n * radix + d
grows radix n d h = omega (arith, mul-le-mul_left n h)

-- A number that has reached the limit stays at or above it.
pub numeral_past : (limit radix n : ℕ) (cs : List ℕ) → 1 ≤ radix → limit ≤ n → below limit (numeral_after radix n cs) ≡ None
numeral_past limit radix n [] r h = rw (le-ltb n limit h) refl
numeral_past limit radix n (c ∷ cs) r h =
    let g = grows radix n (digit_value c) r in
    none_either _ limit _ (numeral_past limit radix (n * radix + digit_value c) cs r (omega arith))

some_where : (b : Bool) (v : ℕ) → is_some (cond b (Some v) None) ≡ b
some_where true v = refl
some_where false v = refl

-- A text of at least one byte spells a number if and only if each byte is a digit.
pub some_numeral : (radix c : ℕ) (cs : List ℕ) → is_some (numeral radix (c ∷ cs)) ≡ all_digits radix (c ∷ cs)
some_numeral radix c cs = some_where _ _
