-- Printed doubles are read.
use Rattle.std.proofs.Common.{◌≡◌, ◌≢◌, ℕ, zero, suc, ◌<◌, ◌+◌, ◌-◌, ◌*◌, ◌/◌, ◌%◌, ◌^◌, true, List, [], ◌∷◌, ◌++◌, length, Some, refl, ap, ◌∙◌, append_assoc, arith, to_bits}
use Rattle.std.specs.Prelude.{T}
use Rattle.std.proofs.lemmas.List.{length-append}
use Rattle.std.specs.Float.Ieee.{Float, binary64, fits}
use Rattle.std.specs.Float.Ieee.Bits.{of_bits-to_bits, to_bits-lt}
use Rattle.ioc_journal_file.specs.Texts.{hex_digit, hex_value}
use Rattle.ioc_journal_file.specs.Bits.{hexadecimal, number_after, bits_text, bits_double}
use Rattle.ioc_journal_file.proofs.Splitting.{is_whole, whole_append}
use Rattle.ioc_journal_file.proofs.NumbersAgain.{goes_on}
use Rattle.ioc_journal_file.proofs.TextsAgain.{digit_high, digit_back}

-- The first number that has more than so many digits.
abbrev limit : ℕ → ℕ
limit zero = 1
limit (suc k) = limit k * 16

-- The digits of a number are those in front of the last one, and this one.
pub digits_next : (xs ys zs : List ℕ) (d count n : ℕ) → count ≢ 0 → ys ≡ xs ++ hexadecimal (count - 1) (n / 16) → d ≡ hex_digit (n % 16) → zs ≡ ys ++ d ∷ []
    → zs ≡ xs ++ hexadecimal count n
digits_next xs ys zs d zero n h e last q = absurd (omega arith)
digits_next xs ys zs d (suc count) n h e last q =
    let one : suc count - 1 ≡ count = omega arith in
    q ∙ rw (last, rw one at e) (append_assoc xs (hexadecimal count (n / 16)) (hex_digit (n % 16) ∷ []))

last_read : (a d : ℕ) (ds : List ℕ) → number_after a (ds ++ d ∷ []) ≡ number_after a ds % 2 ^ 60 * 16 + hex_value d
last_read a d [] = refl
last_read a d (e ∷ es) = last_read (a % 2 ^ 60 * 16 + hex_value e) d es

digits_read : (k n : ℕ) → n < limit k → n < 2 ^ 64 → number_after 0 (hexadecimal k n) ≡ n
digits_read zero n h small = omega (arith, h)
digits_read (suc k) n h small =
    let front = digits_read k (n / 16) (omega (arith, h)) (omega (arith, small)) in
    let last = digit_back (n % 16) (omega arith) in
    last_read 0 (hex_digit (n % 16)) (hexadecimal k (n / 16)) ∙ rw (front, last) (omega (arith, small))

digits_many : (k n : ℕ) → length (hexadecimal k n) ≡ k
digits_many zero n = refl
digits_many (suc k) n = let m = digits_many k (n / 16) in length-append (hexadecimal k (n / 16)) (hex_digit (n % 16) ∷ []) ∙ omega (arith, m)

digits_whole : (k n : ℕ) → is_whole (hexadecimal k n) ≡ true
digits_whole zero n = refl
digits_whole (suc k) n =
    whole_append (hexadecimal k (n / 16)) (hex_digit (n % 16) ∷ []) (digits_whole k (n / 16)) (rw (goes_on (hex_digit (n % 16)) (omega (arith, digit_high (n % 16)))) refl)

pub bits_whole : (x : Float) → is_whole (bits_text x) ≡ true
unfolding bits_text
bits_whole x = digits_whole 16 (to_bits binary64 x)

pub bits_again : (x : Float) → T (fits binary64 x) → bits_double (bits_text x) ≡ Some x
unfolding bits_text bits_double
bits_again x h =
    let n = to_bits binary64 x in
    let small : n < 2 ^ 64 = to_bits-lt binary64 x h in
    rw (digits_many 16 n, digits_read 16 n small small) (ap Some (of_bits-to_bits binary64 x h))
