-- Printed numbers are read.
use Rattle.std.proofs.Common.{◌≡◌, ℕ, suc, ◌≤◌, ◌<◌, ◌^◌, true, cond, not, List, [], ◌∷◌, ◌++◌, Some, None, ℤ, pos, negsuc, refl, ap, ◌∙◌, arith}
use Rattle.std.specs.Prelude.{FitsSigned}
use Rattle.std.specs.Int.{w64}
use Rattle.std.specs.Fmt.{decimal, signed_decimal}
use Rattle.std.specs.Char.{digit_value}
use Rattle.std.specs.Str.Parse.{AllDigits, IsNumeral, digits_value}
use Rattle.std.proofs.lemmas.Int.{ints}
use Rattle.std.proofs.lemmas.Bool.{lt-ltb, ne_eqb}
use Rattle.std.proofs.lemmas.Bool.Decides.{nat_tests}
use Rattle.std.proofs.lemmas.Fmt.{decimal_is_IsNumeral}
use Rattle.ioc_values.specs.Number.{numeral, below, all_digits, signed, within_i64}
use Rattle.ioc_values.proofs.Printed.{decimal_signed}
use Rattle.ioc_journal_file.specs.Words.{ends_word}
use Rattle.ioc_journal_file.specs.Parts.{number_at, integer_at}
use Rattle.ioc_journal_file.proofs.Splitting.{is_whole, and_true, word_cut, after_cut}

pub goes_on : (b : ℕ) → 11 ≤ b → not (ends_word b) ≡ true
goes_on b h = rw (ne_eqb b 9 (λ e. omega arith), ne_eqb b 10 (λ e. omega arith)) refl

digit_range : (c : ℕ) → digit_value c < 10 → 48 ≤ c
digit_range c h = grind (arith, nat_tests)

digits_whole : (cs : List ℕ) → AllDigits 10 cs → is_whole cs ≡ true
digits_whole [] h = refl
digits_whole (c ∷ cs) h = and_true (not (ends_word c)) (is_whole cs) (goes_on c (omega (arith, digit_range c h.0))) (digits_whole cs h.1)

digits_all : (cs : List ℕ) → AllDigits 10 cs → all_digits 10 cs ≡ true
digits_all [] h = refl
digits_all (c ∷ cs) h = rw (lt-ltb _ _ h.0) (digits_all cs h.1)

numeral_of : (cs : List ℕ) → IsNumeral 10 cs → numeral 10 cs ≡ Some (digits_value 10 cs)
numeral_of [] h = absurd (omega (arith, h.0))
numeral_of (c ∷ cs) h = ap (λ b. cond b (Some (digits_value 10 (c ∷ cs))) None) (digits_all (c ∷ cs) h.1)

pub decimal_whole : (n : ℕ) → n < 2 ^ 64 → is_whole (decimal n) ≡ true
decimal_whole n h = digits_whole (decimal n) (decimal_is_IsNumeral n (omega (arith, ints))).0.1

pub decimal_read : (n : ℕ) → n < 2 ^ 64 → below (2 ^ 64) (numeral 10 (decimal n)) ≡ Some n
decimal_read n h =
    let d = decimal_is_IsNumeral n (omega (arith, ints)) in
    ap (below (2 ^ 64)) (numeral_of (decimal n) d.0 ∙ ap (λ k. Some k) d.1) ∙ rw (lt-ltb n (2 ^ 64) h) refl

pub number_again : (n c : ℕ) (rest : List ℕ) → n < 2 ^ 64 → ends_word c ≡ true → number_at (decimal n ++ c ∷ rest) ≡ Some (n, rest)
unfolding number_at
number_again n c rest h e = rw (word_cut (decimal n) c rest (decimal_whole n h) e, after_cut (decimal n) c rest (decimal_whole n h) e, decimal_read n h) refl

pub signed_whole : (z : ℤ) → FitsSigned w64 z → is_whole (signed_decimal z) ≡ true
signed_whole (pos n) h = decimal_whole n (omega (arith, ints))
signed_whole (negsuc n) h = decimal_whole (suc n) (omega (arith, ints))

kept : (z : ℤ) → FitsSigned w64 z → within_i64 (Some z) ≡ Some z
kept (pos n) h = let k : n < 2 ^ 63 = omega (arith, ints) in rw (lt-ltb n (2 ^ 63) k) refl
kept (negsuc n) h = let k : n < 2 ^ 63 = omega (arith, ints) in rw (lt-ltb n (2 ^ 63) k) refl

pub integer_read : (z : ℤ) → FitsSigned w64 z → within_i64 (signed (signed_decimal z)) ≡ Some z
integer_read z h = ap within_i64 (decimal_signed z h) ∙ kept z h

pub integer_again : (z : ℤ) (c : ℕ) (rest : List ℕ) → FitsSigned w64 z → ends_word c ≡ true → integer_at (signed_decimal z ++ c ∷ rest) ≡ Some (z, rest)
unfolding integer_at
integer_again z c rest h e = rw (word_cut (signed_decimal z) c rest (signed_whole z h) e, after_cut (signed_decimal z) c rest (signed_whole z h) e, integer_read z h) refl
