-- Texts in quotation marks are read.
use Rattle.std.proofs.Common.{◌≡◌, ℕ, zero, suc, ◌≤◌, ◌<◌, ◌+◌, ◌*◌, ◌/◌, ◌%◌, Bool, true, false, eqb, ltb, ◌||◌, List, [], ◌∷◌, ◌++◌, length, take, refl, ap, ◌∙◌, append_assoc, inl, inr, arith}
use Rattle.std.proofs.lemmas.List.{take_all}
use Rattle.std.specs.List.{flat_map}
use Rattle.std.proofs.lemmas.Bool.{cases_Bool, cases_lt, lt-ltb, le-ltb, ltb-true, ltb-false, eqb-true, or_cases}
use Rattle.ioc_journal_file.specs.declared.texts.Escape.TheVariants.{No}
use Rattle.ioc_journal_file.specs.Words.{ends_word, word_of, after_word}
use Rattle.ioc_journal_file.specs.Texts.{is_special, hex_digit, hex_value, escape, quoted, unescaped}
use Rattle.ioc_journal_file.specs.Parts.{text_at}
use Rattle.ioc_journal_file.proofs.Splitting.{is_whole, whole_append, word_cut, after_cut}
use Rattle.ioc_journal_file.proofs.NumbersAgain.{goes_on}

-- ---- A cut twice

pub cut_again : (n : ℕ) (xs ys : List ℕ) → take n (take n xs ++ ys) ≡ take n (xs ++ ys)
cut_again zero xs ys = refl
cut_again (suc n) [] ys = refl
cut_again (suc n) (x ∷ xs) ys = ap (λ (l : List ℕ). x ∷ l) (cut_again n xs ys)

-- ---- Digits

pub digit_high : (n : ℕ) → 48 ≤ hex_digit n
digit_high n =
    elim (cases_Bool (ltb n 10)) [
      | inl is ↦ rw is (omega arith)
      | inr other ↦ rw other (omega arith)
    ]

pub digit_back : (n : ℕ) → n < 16 → hex_value (hex_digit n) ≡ n
digit_back n h =
    elim (cases_lt n 10) [
      | inl small ↦ rw (lt-ltb n 10 small, lt-ltb (48 + n) 97 (omega arith)) (omega arith)
      | inr big ↦ let k : 10 ≤ n = big in rw (le-ltb n 10 k, le-ltb (87 + n) 97 (omega arith)) (omega arith)
    ]

byte_back : (b : ℕ) → b < 128 → 16 * hex_value (hex_digit (b / 16)) + hex_value (hex_digit (b % 16)) ≡ b
byte_back b h =
    let high : b / 16 < 16 = omega arith in
    let low : b % 16 < 16 = omega arith in
    rw (digit_back (b / 16) high, digit_back (b % 16) low) (omega arith)

or_none : (p q : Bool) → (p || q) ≡ false → (p ≡ false) × (q ≡ false)
or_none true q h = absurd cc
or_none false q h = (refl, h)

special_low : (b : ℕ) → is_special b ≡ true → b < 128
special_low b h =
    elim (or_cases (ltb b 32) _ h) [
      | inl low ↦ let k = ltb-true b 32 low in omega (arith, k)
      | inr other ↦ elim (or_cases (eqb b 34) _ other) [
        | inl is ↦ let k = eqb-true b 34 is in omega (arith, k)
        | inr more ↦ elim (or_cases (eqb b 92) (eqb b 127) more) [
          | inl is ↦ let k = eqb-true b 92 is in omega (arith, k)
          | inr is ↦ let k = eqb-true b 127 is in omega (arith, k)
        ]
      ]
    ]

pub record IsOrdinary (b : ℕ) : Type 0 where
  pub high : 32 ≤ b
  pub no_mark : eqb b 34 ≡ false
  pub no_slash : eqb b 92 ≡ false

ordinary : (b : ℕ) → is_special b ≡ false → IsOrdinary b
ordinary b h =
    let p = or_none (ltb b 32) _ h in
    let q = or_none (eqb b 34) _ p.1 in
    let r = or_none (eqb b 92) (eqb b 127) q.1 in
    record { high = ltb-false b 32 p.0; no_mark = q.0; no_slash = r.0 }

-- ---- A text is one word

escape_whole : (b : ℕ) → is_whole (escape b) ≡ true
escape_whole b =
    elim (cases_Bool (is_special b)) [
      | inl is ↦ rw is (rw (goes_on (hex_digit (b / 16)) (omega (arith, digit_high (b / 16))), goes_on (hex_digit (b % 16)) (omega (arith, digit_high (b % 16)))) refl)
      | inr other ↦ rw other (rw (goes_on b (omega (arith, (ordinary b other).high))) refl)
    ]

escaped_whole : (text : List ℕ) → is_whole (flat_map escape text) ≡ true
escaped_whole [] = refl
escaped_whole (b ∷ bs) = whole_append (escape b) (flat_map escape bs) (escape_whole b) (escaped_whole bs)

pub quoted_whole : (text : List ℕ) → is_whole (quoted text) ≡ true
quoted_whole text = whole_append (flat_map escape text) (34 ∷ []) (escaped_whole text) refl

-- ---- A text is read

escape_read : (b : ℕ) (rest : List ℕ) → unescaped No (escape b ++ rest) ≡ b ∷ unescaped No rest
escape_read b rest =
    elim (cases_Bool (is_special b)) [
      | inl is ↦ rw is (ap (λ (n : ℕ). n ∷ unescaped No rest) (byte_back b (special_low b is)))
      | inr other ↦ let o = ordinary b other in rw other (rw (o.no_slash, o.no_mark) refl)
    ]

escaped_read : (text : List ℕ) → unescaped No (flat_map escape text ++ 34 ∷ []) ≡ text
escaped_read [] = refl
escaped_read (b ∷ bs) =
    ap (unescaped No) (append_assoc (escape b) (flat_map escape bs) (34 ∷ [])) ∙ escape_read b (flat_map escape bs ++ 34 ∷ []) ∙ ap (λ (l : List ℕ). b ∷ l) (escaped_read bs)

pub text_again : (limit : ℕ) (text : List ℕ) (c : ℕ) (rest : List ℕ) → length text ≤ limit → ends_word c ≡ true → text_at limit (quoted text ++ c ∷ rest) ≡ (text, rest)
unfolding text_at
text_again limit text c rest h e =
    let first : take limit (unescaped No (word_of (quoted text ++ c ∷ rest))) ≡ text =
    ap (λ (w : List ℕ). take limit (unescaped No w)) (word_cut (quoted text) c rest (quoted_whole text) e) ∙ ap (take limit) (escaped_read text) ∙ take_all limit text h in
    let second : after_word (quoted text ++ c ∷ rest) ≡ rest = after_cut (quoted text) c rest (quoted_whole text) e in
    λ i. (first i, second i)
