-- The parts of a text are replaced by their values.
use Rattle.std.proofs.Common.{◌≡◌, ℕ, suc, ◌+◌, Bool, true, false, cond, eqb, List, [], ◌∷◌, ◌++◌, length, drop, Option, Some, None, refl, sym, ap, ◌∙◌, append_assoc, arith, inl, inr}
use Rattle.std.proofs.lemmas.Bool.{cases_Bool, eqb-true, eqb-false}
use Rattle.ioc_dblex.specs.Macros.{Defined, is_macro_byte, all_macro_bytes, is_macro_name, value_of, front_of, back_of, or_default, lacks, used, closing_of, use_at, opens_macro, onto_text, replaced}
use Rattle.ioc_dblex.specs.MacroLaws.{Brackets, Round, Curly, opening, closing, Part, Plain, Use, UseOr, written, StandsFor}
use Rattle.ioc_dblex.proofs.Replacing.{onto_onto, use_piece}
use Rattle.ioc_dblex.proofs.Pieces.{lacks_first, lacks_front, lacks_back}

-- ---- Bytes of a name

name_byte : (b : ℕ) (bs : List ℕ) → all_macro_bytes (b ∷ bs) ≡ true → (is_macro_byte b ≡ true) × (all_macro_bytes bs ≡ true)
name_byte b bs h = by_test (is_macro_byte b) refl h
  where
    by_test : (t : Bool) → is_macro_byte b ≡ t → cond t (all_macro_bytes bs) false ≡ true → (is_macro_byte b ≡ true) × (all_macro_bytes bs ≡ true)
    by_test true is g = (is, g)
    by_test false is g = cc

name_lacks : (c : ℕ) (name : List ℕ) → is_macro_byte c ≡ false → all_macro_bytes name ≡ true → lacks c name ≡ true
name_lacks c [] none h = refl
name_lacks c (b ∷ bs) none h =
    let k = name_byte b bs h in
    elim (cases_Bool (eqb b c)) [
      | inl is ↦ absurd (let same : b ≡ c = eqb-true b c is in let wrong : is_macro_byte b ≡ false = rw same none in let clash : true ≡ false = sym k.0 ∙ wrong in cc)
      | inr other ↦ rw other (name_lacks c bs none k.1)
    ]

name_bytes : (name : List ℕ) → is_macro_name name ≡ true → all_macro_bytes name ≡ true
name_bytes [] h = cc
name_bytes (b ∷ bs) h = h

-- ---- Up to a byte

lacks_append : (c : ℕ) (xs ys : List ℕ) → lacks c xs ≡ true → lacks c ys ≡ true → lacks c (xs ++ ys) ≡ true
lacks_append c [] ys h k = k
lacks_append c (x ∷ xs) ys h k = let first = lacks_first c x xs h in rw first.0 (lacks_append c xs ys first.1 k)

same_byte : (c : ℕ) → eqb c c ≡ true
same_byte c = elim (cases_Bool (eqb c c)) [ inl is ↦ is | inr other ↦ absurd (eqb-false c c other refl) ]

front_until : (c : ℕ) (xs rest : List ℕ) → lacks c xs ≡ true → front_of c (xs ++ (c ∷ rest)) ≡ xs
front_until c [] rest h = rw (same_byte c) refl
front_until c (x ∷ xs) rest h = let first = lacks_first c x xs h in rw first.0 (ap (λ (l : List ℕ). x ∷ l) (front_until c xs rest first.1))

back_until : (c : ℕ) (xs rest : List ℕ) → lacks c xs ≡ true → back_of c (xs ++ (c ∷ rest)) ≡ c ∷ rest
back_until c [] rest h = rw (same_byte c) refl
back_until c (x ∷ xs) rest h = let first = lacks_first c x xs h in rw first.0 (back_until c xs rest first.1)

drop_until : (c : ℕ) (xs rest : List ℕ) → drop (length xs + 1) (xs ++ (c ∷ rest)) ≡ rest
drop_until c [] rest = refl
drop_until c (x ∷ xs) rest = let one : length (x ∷ xs) + 1 ≡ suc (length xs + 1) = omega arith in rw one (drop_until c xs rest)

-- ---- A macro

closes : (b : Brackets) → closing_of (opening b) ≡ closing b
unfolding closing_of
closes Round = refl
closes Curly = refl

opens : (b : Brackets) (rest : List ℕ) → opens_macro (opening b ∷ rest) ≡ true
opens Round rest = refl
opens Curly rest = refl

no_name_byte : (b : Brackets) → is_macro_byte (closing b) ≡ false
unfolding is_macro_byte
no_name_byte Round = refl
no_name_byte Curly = refl

no_dollar : is_macro_byte 36 ≡ false
unfolding is_macro_byte
no_dollar = refl

no_equals : is_macro_byte 61 ≡ false
unfolding is_macro_byte
no_equals = refl

found : (ds : List Defined) (b : Brackets) (inner rest value : List ℕ) → lacks (closing b) inner ≡ true → used ds inner ≡ Some value → use_at ds (opening b ∷ inner ++ (closing b ∷ rest)) ≡ Some (record { value = value; size = length inner + 2 })
unfolding use_at
found ds b inner rest value h is = rw (closes b, front_until (closing b) inner rest h, back_until (closing b) inner rest h, is) refl

replaces : (ds : List Defined) (b : Brackets) (inner rest value : List ℕ) → lacks (closing b) inner ≡ true → used ds inner ≡ Some value → replaced ds (36 ∷ opening b ∷ inner ++ (closing b ∷ rest)) ≡ onto_text value (replaced ds rest)
replaces ds b inner rest value h is =
    let size : length inner + 2 ≡ suc (length inner + 1) = omega arith in
    let behind : drop (length inner + 2) (opening b ∷ inner ++ (closing b ∷ rest)) ≡ rest = rw size (drop_until (closing b) inner rest) in
    use_piece ds 36 (opening b ∷ inner ++ (closing b ∷ rest)) _ (opens b (inner ++ (closing b ∷ rest))) (found ds b inner rest value h is) ∙ ap (λ (l : List ℕ). onto_text value (replaced ds l)) behind

used_alone : (ds : List Defined) (name value : List ℕ) → is_macro_name name ≡ true → value_of ds name ≡ Some value → used ds name ≡ Some value
unfolding used
used_alone ds name value h is =
    let bytes = name_bytes name h in
    let equals = name_lacks 61 name no_equals bytes in
    rw (lacks_front 61 name equals, lacks_back 61 name equals, h, name_lacks 36 name no_dollar bytes, is) refl

used_or : (ds : List Defined) (name default value : List ℕ) → is_macro_name name ≡ true → lacks 36 default ≡ true → or_default (value_of ds name) (Some default) ≡ Some value → used ds (name ++ (61 ∷ default)) ≡ Some value
unfolding used
used_or ds name default value h plain is =
    let bytes = name_bytes name h in
    let equals = name_lacks 61 name no_equals bytes in
    rw (front_until 61 name default equals, back_until 61 name default equals, h, lacks_append 36 name (61 ∷ default) (name_lacks 36 name no_dollar bytes) plain) is

-- ---- All parts

plain_part : (ds : List Defined) (bytes rest : List ℕ) → lacks 36 bytes ≡ true → replaced ds (bytes ++ rest) ≡ onto_text bytes (replaced ds rest)
plain_part ds [] rest h = onto_nil (replaced ds rest)
  where
    onto_nil : (o : Option (List ℕ)) → o ≡ onto_text [] o
    onto_nil None = refl
    onto_nil (Some t) = refl
plain_part ds (b ∷ bs) rest h =
    let first = lacks_first 36 b bs h in
    rw first.0 (ap (onto_text (b ∷ [])) (plain_part ds bs rest first.1) ∙ onto_onto (b ∷ []) bs (replaced ds rest))

lacks_or : (b : Brackets) (name default : List ℕ) → is_macro_name name ≡ true → lacks (closing b) default ≡ true → lacks (closing b) (name ++ (61 ∷ default)) ≡ true
lacks_or Round name default h k = lacks_append 41 name (61 ∷ default) (name_lacks 41 name (no_name_byte Round) (name_bytes name h)) k
lacks_or Curly name default h k = lacks_append 125 name (61 ∷ default) (name_lacks 125 name (no_name_byte Curly) (name_bytes name h)) k

pub parts_are_replaced : (ds : List Defined) (parts : List Part) (text : List ℕ) → StandsFor ds parts text → replaced ds (written parts) ≡ Some text
parts_are_replaced ds [] text h = ap (λ (l : List ℕ). Some l) (sym h)
parts_are_replaced ds (Plain bytes ∷ ps) text (rest, plain, is, more) =
    plain_part ds bytes (written ps) plain ∙ ap (onto_text bytes) (parts_are_replaced ds ps rest more) ∙ ap (λ (l : List ℕ). Some l) (sym is)
parts_are_replaced ds (Use b name ∷ ps) text (value, rest, named, stands, is, more) =
    replaces ds b name (written ps) value (name_lacks (closing b) name (no_name_byte b) (name_bytes name named)) (used_alone ds name value named stands)
    ∙ ap (onto_text value) (parts_are_replaced ds ps rest more) ∙ ap (λ (l : List ℕ). Some l) (sym is)
parts_are_replaced ds (UseOr b name default ∷ ps) text (value, rest, named, plain, ends, stands, is, more) =
    ap (λ (l : List ℕ). replaced ds (36 ∷ opening b ∷ l)) (sym (append_assoc name (61 ∷ default) (closing b ∷ written ps)))
    ∙ replaces ds b (name ++ (61 ∷ default)) (written ps) value (lacks_or b name default named ends) (used_or ds name default value named plain stands)
    ∙ ap (onto_text value) (parts_are_replaced ds ps rest more) ∙ ap (λ (l : List ℕ). Some l) (sym is)
