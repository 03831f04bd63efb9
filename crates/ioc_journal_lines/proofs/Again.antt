-- Printed lines are read.
use Rattle.std.proofs.Common.{◌≡◌, ℕ, suc, ◌≤◌, ◌<◌, ◌^◌, ◌/◌, ◌%◌, true, cond, not, List, [], ◌∷◌, ◌++◌, slice_index, Option, Some, None, refl, sym, ap, ◌∙◌, append_assoc, arith}
use Rattle.std.specs.Prelude.{◌↔◌, codes, decimal, Bool, false, IsTrue}
use Rattle.std.specs.Char.{digit_value}
use Rattle.std.specs.Str.Parse.{AllDigits, IsNumeral, digits_value}
use Rattle.std.proofs.lemmas.Int.{ints}
use Rattle.std.proofs.lemmas.List.{take_all}
use Rattle.std.proofs.lemmas.Bool.{lt-ltb, ne_eqb}
use Rattle.std.proofs.lemmas.Bool.Decides.{nat_tests}
use Rattle.std.proofs.lemmas.Fmt.{decimal_is_IsNumeral}
use Rattle.hex.specs.Hex.{IsBytes, encode_lower, encode_with, hex_digit_value, lower_digits}
use Rattle.hex.proofs.HexLemmas.{IsDigits-lower_digits, decode_sized-encode_lower}
use Rattle.ioc_values.specs.Number.{numeral, below, all_digits}
use Rattle.ioc_saved.specs.declared.value.SavedValue.{SavedValue}
use Rattle.ioc_saved.specs.Files.{value_line}
use Rattle.ioc_saved.specs.Lines.{saved_in}
use Rattle.ioc_journal_lines.specs.declared.header.Header.{Header}
use Rattle.ioc_journal_lines.specs.Words.{ends_word, is_whole, is_word, number_at, digest_at}
use Rattle.ioc_journal_lines.specs.Lines.{header_line, device_word, seal_word, base_line, end_line, seal_line, IsDigest, IsHeader, read_header, read_base, read_end, read_seal}
use Rattle.ioc_journal_lines.proofs.Splitting.{and_true, word_cut, after_cut}

-- ---- Numbers

goes_on : (b : ℕ) → 11 ≤ b → not (ends_word b) ≡ true
goes_on b h = rw (ne_eqb b 9 (λ e. omega arith), ne_eqb b 10 (λ e. omega arith)) refl

digit_range : (c : ℕ) → digit_value c < 10 → 48 ≤ c
digit_range c h = grind (arith, nat_tests)

digits_whole : (cs : List ℕ) → AllDigits 10 cs → is_whole cs ≡ true
digits_whole [] h = refl
digits_whole (c ∷ cs) h = and_true (not (ends_word c)) (is_whole cs) (goes_on c (omega (arith, digit_range c h.0))) (digits_whole cs h.1)

digits_all : (cs : List ℕ) → AllDigits 10 cs → all_digits 10 cs ≡ true
digits_all [] h = refl
digits_all (c ∷ cs) h = rw (lt-ltb _ _ h.0) (digits_all cs h.1)

numeral_of : (cs : List ℕ) → IsNumeral 10 cs → numeral 10 cs ≡ Some (digits_value 10 cs)
numeral_of [] h = absurd (omega (arith, h.0))
numeral_of (c ∷ cs) h = ap (λ b. cond b (Some (digits_value 10 (c ∷ cs))) None) (digits_all (c ∷ cs) h.1)

decimal_whole : (n : ℕ) → n < 2 ^ 64 → is_whole (decimal n) ≡ true
decimal_whole n h = digits_whole (decimal n) (decimal_is_IsNumeral n (omega (arith, ints))).0.1

decimal_read : (n : ℕ) → n < 2 ^ 64 → below (2 ^ 64) (numeral 10 (decimal n)) ≡ Some n
decimal_read n h =
    let d = decimal_is_IsNumeral n (omega (arith, ints)) in
    ap (below (2 ^ 64)) (numeral_of (decimal n) d.0 ∙ ap (λ k. Some k) d.1) ∙ rw (lt-ltb n (2 ^ 64) h) refl

number_again : (n c : ℕ) (rest : List ℕ) → n < 2 ^ 64 → ends_word c ≡ true → number_at (decimal n ++ c ∷ rest) ≡ Some (n, rest)
unfolding number_at
number_again n c rest h e = rw (word_cut (decimal n) c rest (decimal_whole n h) e, after_cut (decimal n) c rest (decimal_whole n h) e, decimal_read n h) refl

-- ---- Hashes

hex_range : (c v : ℕ) → hex_digit_value c ≡ Some v → 48 ≤ c
hex_range c v is = grind (arith, nat_tests)

hex_whole : (hash : List ℕ) → IsBytes hash → is_whole (encode_lower hash) ≡ true
unfolding encode_with
hex_whole [] h = refl
hex_whole (b ∷ bs) h =
    let small : b < 256 = h 0 in
    let one = slice_index lower_digits (b / 16) in
    let two = slice_index lower_digits (b % 16) in
    let high : 48 ≤ one = hex_range one (b / 16) (IsDigits-lower_digits (b / 16) (omega arith)) in
    let low : 48 ≤ two = hex_range two (b % 16) (IsDigits-lower_digits (b % 16) (omega arith)) in
    and_true (not (ends_word one)) (is_whole (two ∷ encode_lower bs)) (goes_on one (omega (arith, high)))
    (and_true (not (ends_word two)) (is_whole (encode_lower bs)) (goes_on two (omega (arith, low))) (hex_whole bs (λ i. h (suc i))))

digest_again : (hash : List ℕ) (c : ℕ) (rest : List ℕ) → IsDigest hash → ends_word c ≡ true → digest_at (encode_lower hash ++ c ∷ rest) ≡ Some (hash, rest)
unfolding digest_at
digest_again hash c rest h e =
    let whole = hex_whole hash h.1 in
    rw (word_cut (encode_lower hash) c rest whole e, after_cut (encode_lower hash) c rest whole e, decode_sized-encode_lower hash 32 h.0 h.1) refl

-- ---- Lines

pub base_again : (saved : SavedValue) → saved_in (value_line saved) ≡ Some saved → read_base (base_line saved) ≡ Some saved
unfolding read_base base_line
base_again saved h = ap saved_in (after_cut (codes "base") 9 (value_line saved) refl refl) ∙ h

pub end_again : (place : ℕ) → place < 2 ^ 64 → read_end (end_line place) ≡ Some place
unfolding read_end end_line
end_again place h = rw (number_again place 10 [] h refl) refl

pub seal_again : (hash : List ℕ) → IsDigest hash → read_seal (seal_line hash) ≡ Some hash
unfolding read_seal seal_line
seal_again hash h = rw (digest_again hash 10 [] h refl) refl

-- The words of a header one after the other.
header_words : (program hash devices seals first : List ℕ)
    → codes "journal" ++ 9 ∷ codes "1" ++ 9 ∷ program ++ 9 ∷ hash ++ 9 ∷ devices ++ 9 ∷ seals ++ 9 ∷ first ++ 10 ∷ []
    ≡ codes "journal" ++ 9 ∷ (codes "1" ++ 9 ∷ (program ++ 9 ∷ (hash ++ 9 ∷ (devices ++ 9 ∷ (seals ++ 9 ∷ (first ++ 10 ∷ []))))))
header_words program hash devices seals first = simp append_assoc

seal_word_read : (is_sealed : Bool) → (is_word (seal_word is_sealed) (codes "sealed") ≡ is_sealed) × (is_whole (seal_word is_sealed) ≡ true)
unfolding seal_word
seal_word_read true = (refl, refl)
seal_word_read false = (refl, refl)

device_word_read : (own : Bool) → (is_word (device_word own) (codes "own") ≡ own) × (is_whole (device_word own) ≡ true)
unfolding device_word
device_word_read true = (refl, refl)
device_word_read false = (refl, refl)

pub header_again : (header : Header) → IsHeader header → read_header (header_line header) ≡ Some header
unfolding read_header header_line
header_again header h =
    let seals = seal_word_read header.is_sealed in
    let devices = device_word_read header.has_own_devices in
    let last : List ℕ = decimal header.first ++ 10 ∷ [] in
    let sealed : List ℕ = seal_word header.is_sealed ++ 9 ∷ last in
    let behind : List ℕ = device_word header.has_own_devices ++ 9 ∷ sealed in
    ap read_header (header_words header.program (encode_lower header.database) (device_word header.has_own_devices) (seal_word header.is_sealed) (decimal header.first))
    ∙ rw (
      word_cut header.program 9 (encode_lower header.database ++ 9 ∷ behind) h.whole refl,
      after_cut header.program 9 (encode_lower header.database ++ 9 ∷ behind) h.whole refl,
      digest_again header.database 9 behind h.database refl,
      word_cut (device_word header.has_own_devices) 9 sealed devices.1 refl,
      after_cut (device_word header.has_own_devices) 9 sealed devices.1 refl,
      word_cut (seal_word header.is_sealed) 9 last seals.1 refl,
      after_cut (seal_word header.is_sealed) 9 last seals.1 refl,
      number_again header.first 10 [] h.first refl,
      take_all 16 header.program h.short,
      devices.0,
      seals.0,
    ) refl

-- ---- What is read is what was printed

-- A value that was read is the only one with this line.
pub read_alone : {X : Type 0} (read : List ℕ → Option X) (line printed : List ℕ) (x y : X) → line ≡ printed → read printed ≡ Some y → read line ≡ Some x
    → (let found : Option X = Some x in found ≡ Some y)
read_alone read line printed x y is again found = sym found ∙ ap read is ∙ again

-- Some value was read.
pub not_none : {X : Type 0} (read : List ℕ → Option X) (line printed : List ℕ) (y : X) → line ≡ printed → read printed ≡ Some y → read line ≡ None → ⊥
not_none {X} read line printed y is again found = let e : (let none : Option X = None in none ≡ Some y) = sym found ∙ ap read is ∙ again in absurd cc

some_same : {X : Type 0} (x y : X) → (let found : Option X = Some x in found ≡ Some y) → x ≡ y
some_same x y is = cc

contradicts : (b : Bool) → IsTrue b → b ≡ false → ⊥
contradicts true t h = absurd cc
contradicts false t h = absurd cc

-- What was read has this line.
pub not_refused : {X : Type 0} (read : List ℕ → Option X) (print : X → List ℕ) (b : Bool) (line made : List ℕ) (x y : X) → line ≡ print y → read (print y) ≡ Some y
    → read line ≡ Some x → made ≡ print x → (IsTrue b ↔ (line ≡ made)) → b ≡ false → ⊥
not_refused read print b line made x y is again found printed told refused =
    let same : x ≡ y = some_same x y (read_alone read line (print y) x y is again found) in
    contradicts b (told.1 (is ∙ sym (ap print same) ∙ sym printed)) refused
