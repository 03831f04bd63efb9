-- Texts between double quotes are read.
use Rattle.std.proofs.Common.{◌≡◌, ℕ, Bool, true, false, eqb, not, ◌&&◌, ◌||◌, List, [], ◌∷◌, ◌++◌, Some, refl, sym, ap, ◌∙◌, ◌⊎◌, inl, inr}
use Rattle.std.specs.List.{flat_map, list_all}
use Rattle.std.proofs.lemmas.Bool.{cases_Bool, eqb-true, ne_eqb, or_parts}
use Rattle.ioc_dblex.specs.Bytes.{closes, escapes, quoted_of, behind_quoted}
use Rattle.ioc_dblex.specs.Escapes.{control_of, escaped_byte, piece_of, unescaped_from}
use Rattle.ioc_dblex.specs.Lines.{begins_comment, quoting_after, uncommented}
use Rattle.ioc_dblex.specs.Macros.{opens_macro}
use Rattle.ioc_dblex.specs.declared.lines.Quoting.TheVariants.{Outside, Inside}
use Rattle.ioc_saved.specs.Words.{lacks}
use Rattle.ioc_saved.specs.Blocks.{quoted_byte, is_name_byte, has_macro}
use Rattle.ioc_saved.proofs.Cuts.{both, negated, lacks_append}

abbrev pub Q : List ℕ → List ℕ
Q text = flat_map quoted_byte text

clash : (x y : Bool) → x ≡ true → y ≡ false → x ≡ y → ⊥
clash true true h k e = absurd cc
clash true false h k e = absurd cc
clash false y h k e = absurd cc

-- A byte that passes a test isn't one that fails it.
pub other : (test : ℕ → Bool) (b c : ℕ) → test b ≡ true → test c ≡ false → eqb b c ≡ false
other test b c h k = ne_eqb b c (λ e. clash (test b) (test c) h k (ap test e))

-- ---- What a byte is: one behind a backslash, or one that stands as it is.

record IsEscaped (b : ℕ) (letter : ℕ) : Type 0 where
  stands : quoted_byte b ≡ 92 ∷ letter ∷ []
  read : escaped_byte true letter ≡ Some b
  no_feed : eqb letter 10 ≡ false
  no_return : eqb letter 13 ≡ false
  no_dollar : eqb letter 36 ≡ false
  no_round : eqb b 40 ≡ false
  no_curly : eqb b 123 ≡ false

record IsPlain (b : ℕ) : Type 0 where
  stands : quoted_byte b ≡ b ∷ []
  no_quote : eqb b 34 ≡ false
  no_slash : eqb b 92 ≡ false
  no_feed : eqb b 10 ≡ false
  no_return : eqb b 13 ≡ false

abbrev Kinds : ℕ → Type 0
Kinds b = ((letter : ℕ) × IsEscaped b letter) ⊎ IsPlain b

escaped : (b c letter : ℕ) → eqb b c ≡ true → IsEscaped c letter → Kinds b
escaped b c letter h is = rw (eqb-true b c h) (inl (letter, is))

kinds : (b : ℕ) → Kinds b
unfolding escaped_byte control_of
kinds b =
    elim (cases_Bool (eqb b 34)) [
      | inl is ↦ escaped b 34 34 is (record { stands = refl; read = refl; no_feed = refl; no_return = refl; no_dollar = refl; no_round = refl; no_curly = refl })
      | inr a ↦ elim (cases_Bool (eqb b 92)) [
        | inl is ↦ escaped b 92 92 is (record { stands = refl; read = refl; no_feed = refl; no_return = refl; no_dollar = refl; no_round = refl; no_curly = refl })
        | inr c ↦ elim (cases_Bool (eqb b 7)) [
          | inl is ↦ escaped b 7 97 is (record { stands = refl; read = refl; no_feed = refl; no_return = refl; no_dollar = refl; no_round = refl; no_curly = refl })
          | inr d ↦ elim (cases_Bool (eqb b 8)) [
            | inl is ↦ escaped b 8 98 is (record { stands = refl; read = refl; no_feed = refl; no_return = refl; no_dollar = refl; no_round = refl; no_curly = refl })
            | inr e ↦ elim (cases_Bool (eqb b 9)) [
              | inl is ↦ escaped b 9 116 is (record { stands = refl; read = refl; no_feed = refl; no_return = refl; no_dollar = refl; no_round = refl; no_curly = refl })
              | inr f ↦ elim (cases_Bool (eqb b 10)) [
                | inl is ↦ escaped b 10 110 is (record { stands = refl; read = refl; no_feed = refl; no_return = refl; no_dollar = refl; no_round = refl; no_curly = refl })
                | inr g ↦ elim (cases_Bool (eqb b 11)) [
                  | inl is ↦ escaped b 11 118 is (record { stands = refl; read = refl; no_feed = refl; no_return = refl; no_dollar = refl; no_round = refl; no_curly = refl })
                  | inr h ↦ elim (cases_Bool (eqb b 12)) [
                    | inl is ↦ escaped b 12 102 is (record { stands = refl; read = refl; no_feed = refl; no_return = refl; no_dollar = refl; no_round = refl; no_curly = refl })
                    | inr i ↦ elim (cases_Bool (eqb b 13)) [
                      | inl is ↦ escaped b 13 114 is (record { stands = refl; read = refl; no_feed = refl; no_return = refl; no_dollar = refl; no_round = refl; no_curly = refl })
                      | inr j ↦ inr (record { stands = rw (a, c, d, e, f, g, h, i, j) refl; no_quote = a; no_slash = c; no_feed = g; no_return = j })
                    ]
                  ]
                ]
              ]
            ]
          ]
        ]
      ]
    ]

-- ---- A quoted text

pub inside : (text rest : List ℕ) → uncommented Inside (Q text ++ 34 ∷ rest) ≡ Q text ++ 34 ∷ uncommented Outside rest
unfolding begins_comment quoting_after
inside [] rest = refl
inside (b ∷ bs) rest =
    elim (kinds b) [
      | inl e ↦ let k = e.1 in rw k.stands (ap (λ (l : List ℕ). 92 ∷ e.0 ∷ l) (inside bs rest))
      | inr k ↦ rw (k.stands, k.no_quote, k.no_slash) (ap (λ (l : List ℕ). b ∷ l) (inside bs rest))
    ]

pub quoted_again : (text rest : List ℕ) → quoted_of false (Q text ++ 34 ∷ rest) ≡ Q text
unfolding closes escapes
quoted_again [] rest = refl
quoted_again (b ∷ bs) rest =
    elim (kinds b) [
      | inl e ↦ let k = e.1 in rw k.stands (ap (λ (l : List ℕ). 92 ∷ e.0 ∷ l) (quoted_again bs rest))
      | inr k ↦ rw (k.stands, k.no_quote, k.no_slash) (ap (λ (l : List ℕ). b ∷ l) (quoted_again bs rest))
    ]

pub behind_again : (text rest : List ℕ) → behind_quoted false (Q text ++ 34 ∷ rest) ≡ 34 ∷ rest
unfolding closes escapes
behind_again [] rest = refl
behind_again (b ∷ bs) rest =
    elim (kinds b) [
      | inl e ↦ let k = e.1 in rw k.stands (behind_again bs rest)
      | inr k ↦ rw (k.stands, k.no_quote, k.no_slash) (behind_again bs rest)
    ]

pub value_again : (text : List ℕ) → unescaped_from true false (Q text) ≡ text
unfolding piece_of escapes
value_again [] = refl
value_again (b ∷ bs) =
    elim (kinds b) [
      | inl e ↦ let k = e.1 in rw (k.stands, k.read) (ap (λ (l : List ℕ). b ∷ l) (value_again bs))
      | inr k ↦ rw (k.stands, k.no_slash) (ap (λ (l : List ℕ). b ∷ l) (value_again bs))
    ]

-- A byte of a name stands as it is, or is a backslash.
named_byte : (b : ℕ) → is_name_byte b ≡ true → eqb b 92 ≡ false → quoted_byte b ≡ b ∷ []
named_byte b h slash =
    rw (
      other is_name_byte b 34 h refl,
      slash,
      other is_name_byte b 7 h refl,
      other is_name_byte b 8 h refl,
      other is_name_byte b 9 h refl,
      other is_name_byte b 10 h refl,
      other is_name_byte b 11 h refl,
      other is_name_byte b 12 h refl,
      other is_name_byte b 13 h refl,
    ) refl

slashed : (b : ℕ) → b ≡ 92 → quoted_byte b ≡ 92 ∷ 92 ∷ []
slashed b is = rw is refl

pub name_again : (name : List ℕ) → list_all is_name_byte name ≡ true → unescaped_from false false (Q name) ≡ name
unfolding piece_of escapes escaped_byte
name_again [] h = refl
name_again (b ∷ bs) h =
    let p = both (is_name_byte b) (list_all is_name_byte bs) h in
    elim (cases_Bool (eqb b 92)) [
      | inl is ↦ let e = eqb-true b 92 is in rw (slashed b e) (ap (λ (l : List ℕ). 92 ∷ l) (name_again bs p.1) ∙ ap (λ c. c ∷ bs) (sym e))
      | inr plain ↦ rw (named_byte b p.0 plain, plain) (ap (λ (l : List ℕ). b ∷ l) (name_again bs p.1))
    ]

-- ---- What a quoted text lacks

quoted_lacks : (c : ℕ) → ((b : ℕ) → lacks c (quoted_byte b) ≡ true) → (text : List ℕ) → lacks c (Q text) ≡ true
quoted_lacks c each [] = refl
quoted_lacks c each (b ∷ bs) = lacks_append c (quoted_byte b) (Q bs) (each b) (quoted_lacks c each bs)

no_feed : (b : ℕ) → lacks 10 (quoted_byte b) ≡ true
no_feed b =
    elim (kinds b) [
      | inl e ↦ let k = e.1 in rw (k.stands, k.no_feed) refl
      | inr k ↦ rw (k.stands, k.no_feed) refl
    ]

no_return : (b : ℕ) → lacks 13 (quoted_byte b) ≡ true
no_return b =
    elim (kinds b) [
      | inl e ↦ let k = e.1 in rw (k.stands, k.no_return) refl
      | inr k ↦ rw (k.stands, k.no_return) refl
    ]

pub quoted_feed : (text : List ℕ) → lacks 10 (Q text) ≡ true
quoted_feed text = quoted_lacks 10 no_feed text

pub quoted_return : (text : List ℕ) → lacks 13 (Q text) ≡ true
quoted_return text = quoted_lacks 13 no_return text

-- ---- Macros

opens_again : (text rest : List ℕ) → opens_macro (Q text ++ 34 ∷ rest) ≡ opens_macro text
opens_again [] rest = refl
opens_again (b ∷ bs) rest =
    elim (kinds b) [
      | inl e ↦ let k = e.1 in rw (k.stands, k.no_round, k.no_curly) refl
      | inr k ↦ rw k.stands refl
    ]

no_macro : (a b : Bool) → a ≡ false → b ≡ false → (a || b) ≡ false
no_macro true b h k = absurd cc
no_macro false b h k = k

pub macro_quoted : (text rest : List ℕ) → has_macro text ≡ false → has_macro rest ≡ false → has_macro (Q text ++ 34 ∷ rest) ≡ false
macro_quoted [] rest h r = r
macro_quoted (b ∷ bs) rest h r =
    let p = or_parts (eqb b 36 && opens_macro bs) (has_macro bs) h in
    elim (kinds b) [
      | inl e ↦ let k = e.1 in rw (k.stands, k.no_dollar) (macro_quoted bs rest p.1 r)
      | inr k ↦ rw (k.stands, opens_again bs rest) (no_macro (eqb b 36 && opens_macro bs) (has_macro (Q bs ++ 34 ∷ rest)) p.0 (macro_quoted bs rest p.1 r))
    ]

pub macro_behind : (front rest : List ℕ) → lacks 36 front ≡ true → has_macro (front ++ rest) ≡ has_macro rest
macro_behind [] rest h = refl
macro_behind (b ∷ bs) rest h =
    let p = both (not (eqb b 36)) (lacks 36 bs) h in rw (negated (eqb b 36) p.0) (macro_behind bs rest p.1)

pub macro_none : (text : List ℕ) → lacks 36 text ≡ true → has_macro text ≡ false
macro_none [] h = refl
macro_none (b ∷ bs) h =
    let p = both (not (eqb b 36)) (lacks 36 bs) h in rw (negated (eqb b 36) p.0) (macro_none bs p.1)
