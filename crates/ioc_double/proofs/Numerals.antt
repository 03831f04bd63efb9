-- Numerals, read digit by digit.
use Rattle.std.proofs.Common.{◌≡◌, ℕ, ◌+◌, ◌*◌, ◌≤◌, Bool, true, false, cond, ◌&&◌, List, [], ◌∷◌, length, ◌<◌, Option, Some, None, ltb, refl, arith}
use Rattle.std.specs.Char.{digit_value}
use Rattle.std.specs.Str.Parse.{digits_value_after}
use Rattle.std.proofs.lemmas.Bool.{le-ltb}
use Rattle.ioc_double.specs.Spelled.{numeral, all_hexadecimal, below}

-- The number that the digits spell after those of `n`.
abbrev pub numeral_after : ℕ → List ℕ → Option ℕ
numeral_after n [] = Some n
numeral_after n (c ∷ cs) = cond (ltb (digit_value c) 16) (numeral_after (n * 16 + digit_value c) cs) None

one_more : (b a : Bool) (v : ℕ) (o : Option ℕ) → o ≡ cond a (Some v) None → cond b o None ≡ cond (b && a) (Some v) None
one_more true a v o h = h
one_more false a v o h = refl

after_is : (n : ℕ) (cs : List ℕ) → numeral_after n cs ≡ cond (all_hexadecimal cs) (Some (digits_value_after 16 n cs)) None
after_is n [] = refl
after_is n (c ∷ cs) = one_more _ _ _ _ (after_is (n * 16 + digit_value c) cs)

-- The digits after none spell their number.
pub numeral_is : (cs : List ℕ) → 0 < length cs → numeral_after 0 cs ≡ numeral cs
numeral_is [] h = absurd (omega arith)
numeral_is (c ∷ cs) h = after_is 0 (c ∷ cs)

none_either : (b : Bool) (limit : ℕ) (o : Option ℕ) → below limit o ≡ None → below limit (cond b o None) ≡ None
none_either true limit o h = h
none_either false limit o h = refl

-- A number that has reached the limit stays at or above it.
pub numeral_past : (limit n : ℕ) (cs : List ℕ) → limit ≤ n → below limit (numeral_after n cs) ≡ None
numeral_past limit n [] h = rw (le-ltb n limit h) refl
numeral_past limit n (c ∷ cs) h = none_either _ limit _ (numeral_past limit (n * 16 + digit_value c) cs (omega arith))
