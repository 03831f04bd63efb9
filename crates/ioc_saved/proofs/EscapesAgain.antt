-- Values with escapes are read.
use Rattle.std.proofs.Common.{◌≡◌, ℕ, ◌≤◌, ◌<◌, ◌+◌, ◌/◌, ◌%◌, true, false, eqb, ltb, not, ◌||◌, List, [], ◌∷◌, ◌++◌, length, Option, Some, None, refl, sym, ap, ◌∙◌, append_assoc, ◌⊎◌, inl, inr, arith}
use Rattle.std.proofs.lemmas.Bool.{cases_Bool, cases_lt, lt-ltb, le-ltb, le-leb, lt-leb, ltb-true, eqb-true, ne_eqb, or_cases}
use Rattle.ioc_saved.specs.declared.escapes.Escape.TheVariants.{No, Begun}
use Rattle.ioc_saved.specs.declared.escapes.Step.TheVariants.{Gives}
use Rattle.ioc_saved.specs.Words.{lacks}
use Rattle.ioc_saved.specs.Escapes.{hex_digit, escape, escaped, hex_value, digits, next_step, onto, unescaped, limited}
use Rattle.ioc_saved.proofs.Cuts.{lacks_append}

-- ---- Reading bytes one after the other

-- The bytes that were read before, and those that are still read.
abbrev pub with_front : List ℕ → Option (List ℕ) → Option (List ℕ)
with_front front None = None
with_front front (Some bs) = Some (front ++ bs)

pub no_front : (read : Option (List ℕ)) → with_front [] read ≡ read
no_front None = refl
no_front (Some bs) = refl

pub regroup : (front : List ℕ) (b : ℕ) (read : Option (List ℕ)) → with_front front (onto b read) ≡ with_front (front ++ b ∷ []) read
regroup front b None = refl
regroup front b (Some bs) = ap (λ (l : List ℕ). Some l) (sym (append_assoc front (b ∷ []) bs))

over : (limit : ℕ) (bs : List ℕ) → limit < length bs → limited limit (Some bs) ≡ None
over limit bs h = rw (lt-leb (length bs) limit h) refl

longer : (front bs : List ℕ) (b : ℕ) → length front < length (front ++ b ∷ bs)
longer [] bs b = omega arith
longer (c ∷ front) bs b = let k = longer front bs b in omega (arith, k)

pub full : (limit : ℕ) (front : List ℕ) (b : ℕ) (read : Option (List ℕ)) → limit ≤ length front → limited limit (with_front front (onto b read)) ≡ None
full limit front b None h = refl
full limit front b (Some bs) h = over limit (front ++ b ∷ bs) (let k = longer front bs b in omega (arith, k))

pub within : (limit : ℕ) (bs : List ℕ) → length bs ≤ limit → limited limit (Some bs) ≡ Some bs
within limit bs h = rw (le-leb (length bs) limit h) refl

-- ---- Digits

digit_back : (n : ℕ) → n < 16 → hex_value (hex_digit n) ≡ Some n
digit_back n h =
    elim (cases_lt n 10) [
      | inl small ↦ rw (lt-ltb n 10 small, le-ltb (48 + n) 48 (omega arith), lt-ltb (48 + n) 58 (omega arith)) (ap (λ (k : ℕ). Some k) (omega arith))
      | inr big ↦ let k : 10 ≤ n = big in
          rw (
            le-ltb n 10 k,
            le-ltb (87 + n) 48 (omega arith),
            le-ltb (87 + n) 58 (omega arith),
            le-ltb (87 + n) 65 (omega arith),
            le-ltb (87 + n) 71 (omega arith),
            le-ltb (87 + n) 97 (omega arith),
            lt-ltb (87 + n) 103 (omega arith),
          ) (ap (λ (k : ℕ). Some k) (omega arith))
    ]

digits_read : (b : ℕ) → b < 128 → digits (hex_value (hex_digit (b / 16))) (hex_value (hex_digit (b % 16))) ≡ Gives b
digits_read b h =
    let high : b / 16 < 16 = omega arith in
    let low : b % 16 < 16 = omega arith in
    rw (digit_back (b / 16) high, digit_back (b % 16) low) (ap (λ (k : ℕ). Gives k) (omega arith))

-- ---- A byte is read

-- What a byte is: one with an escape of its own, one by its number, or one that stands as it is.
record IsNamed (b : ℕ) (letter : ℕ) : Type 0 where
  stands : escape b ≡ 92 ∷ letter ∷ []
  read : next_step Begun letter ≡ Gives b
  printed : 32 ≤ letter

record IsNumbered (b : ℕ) : Type 0 where
  stands : escape b ≡ 92 ∷ 120 ∷ hex_digit (b / 16) ∷ hex_digit (b % 16) ∷ []
  low : b < 128

record IsPlain (b : ℕ) : Type 0 where
  stands : escape b ≡ b ∷ []
  no_slash : eqb b 92 ≡ false
  no_feed : eqb b 10 ≡ false

abbrev Kinds : ℕ → Type 0
Kinds b = ((letter : ℕ) × IsNamed b letter) ⊎ (IsNumbered b ⊎ IsPlain b)

line_feed : (b : ℕ) → b ≡ 10 → Kinds b
line_feed b is = rw is (inl (110, record { stands = refl; read = refl; printed = omega arith }))

carriage_return : (b : ℕ) → b ≡ 13 → Kinds b
carriage_return b is = rw is (inl (114, record { stands = refl; read = refl; printed = omega arith }))

tab : (b : ℕ) → b ≡ 9 → Kinds b
tab b is = rw is (inl (116, record { stands = refl; read = refl; printed = omega arith }))

backslash : (b : ℕ) → b ≡ 92 → Kinds b
backslash b is = rw is (inl (92, record { stands = refl; read = refl; printed = omega arith }))

low_byte : (b : ℕ) → (ltb b 32 || eqb b 127) ≡ true → b < 128
low_byte b h =
    elim (or_cases (ltb b 32) (eqb b 127) h) [
      | inl low ↦ let k = ltb-true b 32 low in omega (arith, k)
      | inr is ↦ let k = eqb-true b 127 is in omega (arith, k)
    ]

no_name : (b : ℕ) → eqb b 10 ≡ false → eqb b 13 ≡ false → eqb b 9 ≡ false → eqb b 92 ≡ false → Kinds b
no_name b feed return tabbed slash =
    elim (cases_Bool (ltb b 32 || eqb b 127)) [
      | inl is ↦ inr (inl (record { stands = rw (feed, return, tabbed, slash, is) refl; low = low_byte b is }))
      | inr other ↦ inr (inr (record { stands = rw (feed, return, tabbed, slash, other) refl; no_slash = slash; no_feed = feed }))
    ]

kinds : (b : ℕ) → Kinds b
kinds b =
    elim (cases_Bool (eqb b 10)) [
      | inl is ↦ line_feed b (eqb-true b 10 is)
      | inr feed ↦ elim (cases_Bool (eqb b 13)) [
        | inl is ↦ carriage_return b (eqb-true b 13 is)
        | inr return ↦ elim (cases_Bool (eqb b 9)) [
          | inl is ↦ tab b (eqb-true b 9 is)
          | inr tabbed ↦ elim (cases_Bool (eqb b 92)) [
            | inl is ↦ backslash b (eqb-true b 92 is)
            | inr slash ↦ no_name b feed return tabbed slash
          ]
        ]
      ]
    ]

escape_read : (b : ℕ) (rest : List ℕ) → unescaped No (escape b ++ rest) ≡ onto b (unescaped No rest)
escape_read b rest =
    elim (kinds b) [
      | inl named ↦ let k = named.1 in rw (k.stands, k.read) refl
      | inr other ↦ elim other [
        | inl numbered ↦ rw (numbered.stands, digits_read b numbered.low) refl
        | inr plain ↦ rw (plain.stands, plain.no_slash) refl
      ]
    ]

pub escaped_read : (value : List ℕ) → unescaped No (escaped value) ≡ Some value
escaped_read [] = refl
escaped_read (b ∷ bs) = escape_read b (escaped bs) ∙ ap (onto b) (escaped_read bs)

-- ---- A value has no line feed

digit_high : (n : ℕ) → 48 ≤ hex_digit n
digit_high n =
    elim (cases_Bool (ltb n 10)) [
      | inl is ↦ rw is (omega arith)
      | inr other ↦ rw other (omega arith)
    ]

high_other : (b : ℕ) → 32 ≤ b → not (eqb b 10) ≡ true
high_other b h = rw (ne_eqb b 10 (λ e. omega arith)) refl

escape_lacks : (b : ℕ) → lacks 10 (escape b) ≡ true
escape_lacks b =
    elim (kinds b) [
      | inl named ↦ let k = named.1 in rw (k.stands, high_other named.0 k.printed) refl
      | inr other ↦ elim other [
        | inl numbered ↦ rw (
          numbered.stands,
          high_other (hex_digit (b / 16)) (omega (arith, digit_high (b / 16))),
          high_other (hex_digit (b % 16)) (omega (arith, digit_high (b % 16))),
        ) refl
        | inr plain ↦ rw (plain.stands, plain.no_feed) refl
      ]
    ]

pub escaped_lacks : (value : List ℕ) → lacks 10 (escaped value) ≡ true
escaped_lacks [] = refl
escaped_lacks (b ∷ bs) = lacks_append 10 (escape b) (escaped bs) (escape_lacks b) (escaped_lacks bs)
