-- Readers of tokens take at least one, so that no more turns are needed than there are tokens.
use Rattle.std.proofs.Common.{◌≡◌, ℕ, zero, suc, ◌+◌, ◌<◌, ◌≤◌, Bool, true, false, cond, List, [], ◌∷◌, length, Option, None, Result, Ok, Err, refl, ap, ◌∙◌, codes, arith}
use Rattle.ioc_values.specs.declared.error.BadDbKind.{BadDbKind}
use Rattle.ioc_values.specs.declared.error.BadDbKind.TheVariants as kinds
use Rattle.ioc_fields.specs.declared.record_type.RecordType.{RecordType}
use Rattle.ioc_fields.specs.declared.field_no.FieldNo.{FieldNo}
use Rattle.ioc_dblex.specs.declared.token.TokenKind.{TokenKind}
use Rattle.ioc_dblex.specs.declared.token.TokenKind.TheVariants.{Sign, Word, Quoted, Fault}
use Rattle.ioc_values.specs.declared.error.DbFault.{DbFault}
use Rattle.ioc_dblex.specs.Lexing.{Lexeme}
use Rattle.ioc_dbparse.specs.Rules.{Rules}
use Rattle.ioc_dbparse.specs.Statements.{◌>>=◌, at, on_line, or_fault, sound, next_at, is_sign_of, expect, is_value, value_at, is_word, text_of, field_at, set_at, setting_at, info_at, second_at, alias_in, with_more, entry_of, entry_at, repeated, and_others, body_at, braces_at, named_type, type_at, opened, named, name_line, name_at, record_at, found_at, alias_at, begins_record, refused_word, statement_of, statement_at, statements_at, filled}

-- A fault, or fewer tokens are left than this.
data Shrinks {A : Type 0} (n : ℕ) (rest : A → List Lexeme) : Result A DbFault → Type 0 where
  shorter : (x : A) → length (rest x) < n → Shrinks n rest (Ok x)
  fault : (e : DbFault) → Shrinks n rest (Err e)

then : {A B : Type 0} {n : ℕ} {f : A → List Lexeme} {r : Result A DbFault} (g : B → List Lexeme) (k : A → Result B DbFault) → Shrinks n f r → ((x : A) → length (f x) < n → Shrinks n g (k x)) → Shrinks n g (r >>= k)
then g k (shorter x lt) h = h x lt
then g k (fault e) h = fault e

then_same : {A B : Type 0} {n : ℕ} {f : A → List Lexeme} {r : Result A DbFault} (k l : A → Result B DbFault) → Shrinks n f r → ((x : A) → length (f x) < n → k x ≡ l x) → (r >>= k) ≡ (r >>= l)
then_same k l (shorter x lt) h = h x lt
then_same k l (fault e) h = refl

abbrev all : List Lexeme → List Lexeme
all ts = ts

abbrev second : {A : Type 0} → A × List Lexeme → List Lexeme
second p = p.1

abbrev third : {A B : Type 0} → A × B × List Lexeme → List Lexeme
third p = p.2

module _ (last n : ℕ) where
  sound_shrinks : (token : Lexeme) (kind : TokenKind) (ts : List Lexeme) → length ts < n → Shrinks n second (sound token kind ts)
  sound_shrinks token (Sign b) ts lt = shorter (token, ts) lt
  sound_shrinks token Word ts lt = shorter (token, ts) lt
  sound_shrinks token Quoted ts lt = shorter (token, ts) lt
  sound_shrinks token (Fault kind) ts lt = fault (at token.line kind)

  next_shrinks : (ts : List Lexeme) → length ts ≤ n → Shrinks n second (next_at last ts)
  unfolding next_at
  next_shrinks [] le = fault (at last kinds.OpenBody)
  next_shrinks (t ∷ ts) le = let fewer : length ts < n = omega arith in sound_shrinks t t.kind ts fewer

  test_shrinks : {A : Type 0} (t : Bool) (rest : A → List Lexeme) (x : A) (e : DbFault) → length (rest x) < n → Shrinks n rest (cond t (Ok x) (Err e))
  test_shrinks true rest x e lt = shorter x lt
  test_shrinks false rest x e lt = fault e

  expect_shrinks : (b : ℕ) (ts : List Lexeme) → length ts ≤ n → Shrinks n all (expect b last ts)
  unfolding expect
  expect_shrinks b ts le = then all _ (next_shrinks ts le) (λ token lt. test_shrinks (is_sign_of b token.0.kind) all token.1 (at token.0.line kinds.Syntax) lt)

  value_shrinks : (ts : List Lexeme) → length ts ≤ n → Shrinks n second (value_at last ts)
  unfolding value_at
  value_shrinks ts le = then second _ (next_shrinks ts le) (λ token lt. test_shrinks (is_value token.0.kind) second token (at token.0.line kinds.Syntax) lt)

  -- The result of a step, with the tokens that are left.
  given : {A B : Type 0} (r : Result A DbFault) (k : A → B) (rest : B → List Lexeme) → ((x : A) → length (rest (k x)) < n) → Shrinks n rest (r >>= λ x. Ok (k x))
  given (Ok x) k rest lt = shorter (k x) (lt x)
  given (Err e) k rest lt = fault e

  module _ {S : Type 0} (rules : Rules S) where
    field_shrinks : (number : ℕ) (s : S) (ts : List Lexeme) → length ts ≤ n → Shrinks n second (field_at rules last number s ts)
    unfolding field_at
    field_shrinks number s ts le =
        then second _ (value_shrinks ts le) (λ token lt. given (on_line token.0.line (rules.field_of number (text_of false token.0) s)) (λ field. (field, token.1)) second (λ x. lt))

    set_shrinks : (number : ℕ) (field : FieldNo) (s : S) (ts : List Lexeme) → length ts ≤ n → Shrinks n second (set_at rules last number field s ts)
    unfolding set_at
    set_shrinks number field s ts le =
        then second _ (value_shrinks ts le) (λ token lt. given (on_line token.0.line (rules.set number field (text_of true token.0) s)) (λ changed. (changed, token.1)) second (λ x. lt))

    setting_shrinks : (number : ℕ) (s : S) (ts : List Lexeme) → length ts ≤ n → Shrinks n second (setting_at rules last number s ts)
    unfolding setting_at
    setting_shrinks number s ts le =
        then second _ (expect_shrinks 40 ts le) (λ opened a.
        then second _ (field_shrinks number s opened (omega arith)) (λ field b.
        then second _ (expect_shrinks 44 field.1 (omega arith)) (λ comma c.
        then second _ (set_shrinks number field.0 s comma (omega arith)) (λ changed d.
        then second _ (expect_shrinks 41 changed.1 (omega arith)) (λ closed e. shorter (changed.0, closed) e)))))

    info_shrinks : (s : S) (ts : List Lexeme) → length ts ≤ n → Shrinks n second (info_at rules last s ts)
    unfolding info_at
    info_shrinks s ts le =
        then second _ (expect_shrinks 40 ts le) (λ opened a.
        then second _ (value_shrinks opened (omega arith)) (λ key b.
        then second _ (expect_shrinks 44 key.1 (omega arith)) (λ comma c.
        then second _ (value_shrinks comma (omega arith)) (λ value d.
        then second _ (expect_shrinks 41 value.1 (omega arith)) (λ closed e. shorter (s, closed) e)))))

    second_shrinks : (number : ℕ) (s : S) (ts : List Lexeme) → length ts ≤ n → Shrinks n second (second_at rules last number s ts)
    unfolding second_at
    second_shrinks number s ts le =
        then second _ (value_shrinks ts le) (λ token lt. given (on_line token.0.line (rules.alias number (text_of false token.0) s)) (λ changed. (changed, token.1)) second (λ x. lt))

    alias_in_shrinks : (number : ℕ) (s : S) (ts : List Lexeme) → length ts ≤ n → Shrinks n second (alias_in rules last number s ts)
    unfolding alias_in
    alias_in_shrinks number s ts le =
        then second _ (expect_shrinks 40 ts le) (λ opened a.
        then second _ (second_shrinks number s opened (omega arith)) (λ changed b.
        then second _ (expect_shrinks 41 changed.1 (omega arith)) (λ closed c. shorter (changed.0, closed) c)))

    choose : {A : Type 0} (t : Bool) (rest : A → List Lexeme) (r q : Result A DbFault) → Shrinks n rest r → Shrinks n rest q → Shrinks n rest (cond t r q)
    choose true rest r q h k = h
    choose false rest r q h k = k

    entry_of_shrinks : (number : ℕ) (s : S) (token : Lexeme × List Lexeme) → length token.1 < n → Shrinks n second (entry_of rules last number s token)
    unfolding entry_of
    entry_of_shrinks number s token lt =
        choose (is_word (codes "field") token.0) second _ _ (setting_shrinks number s token.1 (omega arith))
        (choose (is_word (codes "info") token.0) second _ _ (info_shrinks s token.1 (omega arith))
        (choose (is_word (codes "alias") token.0) second _ _ (alias_in_shrinks number s token.1 (omega arith)) (fault (at token.0.line kinds.Syntax))))

    more_shrinks : (r : Result (S × List Lexeme) DbFault) → Shrinks n second r → Shrinks n third (r >>= with_more rules)
    more_shrinks r h = then third _ h (λ x lt. shorter (true, x.0, x.1) lt)

    entry_step : (t : Bool) (s : S) (token : Lexeme × List Lexeme) (r : Result (Bool × S × List Lexeme) DbFault) → length token.1 < n → Shrinks n third r → Shrinks n third (cond t (Ok (false, s, token.1)) r)
    entry_step true s token r lt h = shorter (false, s, token.1) lt
    entry_step false s token r lt h = h

    entry_shrinks : (number : ℕ) (s : S) (ts : List Lexeme) → length ts ≤ n → Shrinks n third (entry_at rules last number s ts)
    unfolding entry_at
    entry_shrinks number s ts le =
        then third _ (next_shrinks ts le) (λ token lt. entry_step (is_sign_of 125 token.0.kind) s token _ lt (more_shrinks _ (entry_of_shrinks number s token lt)))

    others_shrink : (r : Bool × S × List Lexeme) (f : S → List Lexeme → Result (S × List Lexeme) DbFault) → length r.2 < n → ((s : S) (ts : List Lexeme) → length ts ≤ n → Shrinks n second (f s ts)) → Shrinks n second (and_others f r)
    others_shrink (false, s, rest) f lt h = shorter (s, rest) lt
    others_shrink (true, s, rest) f lt h = h s rest (omega arith)

    body_shrinks : (turns number : ℕ) (s : S) (ts : List Lexeme) → length ts ≤ n → Shrinks n second (body_at rules turns last number s ts)
    unfolding repeated
    body_shrinks zero number s ts le = fault (at last kinds.OpenBody)
    body_shrinks (suc turns) number s ts le = then second _ (entry_shrinks number s ts le) (λ r lt. others_shrink r (body_at rules turns last number) lt (body_shrinks turns number))

    -- The body may be missing, and then no token is taken.
    braces_shrinks : (turns number : ℕ) (s : S) (ts : List Lexeme) → length ts < n → Shrinks n second (braces_at rules turns last number s ts)
    unfolding braces_at
    braces_shrinks turns number s [] lt = shorter (s, []) lt
    braces_shrinks turns number s (t ∷ ts) lt = choose (is_sign_of 123 t.kind) second _ _ (body_shrinks turns number s ts (omega arith)) (shorter (s, t ∷ ts) lt)

    type_shrinks : (ts : List Lexeme) → length ts ≤ n → Shrinks n second (type_at rules last ts)
    unfolding type_at
    type_shrinks ts le =
        then second _ (next_shrinks ts le) (λ token lt.
        choose (is_sign_of 42 token.0.kind) second _ _ (shorter (None, token.1) lt)
        (choose (is_value token.0.kind) second _ _
        (given (or_fault (at token.0.line kinds.BadType) (named_type rules (text_of false token.0))) (λ kind. (kind, token.1)) second (λ x. lt))
        (fault (at token.0.line kinds.Syntax))))

    named_shrinks : (begun : ℕ) (token : Lexeme × List Lexeme) (r : Result (ℕ × S) BadDbKind) → length token.1 < n → Shrinks n third (named rules begun token r)
    named_shrinks begun token (Ok added) lt = shorter (added.0, added.1, token.1) lt
    named_shrinks begun token (Err kind) lt = fault (at (name_line begun token.0.line kind) kind)

    name_shrinks : (begun : ℕ) (kind : Option RecordType) (s : S) (ts : List Lexeme) → length ts ≤ n → Shrinks n third (name_at rules last begun kind s ts)
    unfolding name_at
    name_shrinks begun kind s ts le = then third _ (value_shrinks ts le) (λ token lt. named_shrinks begun token (opened rules kind (text_of false token.0) s) lt)

    record_shrinks : (turns begun : ℕ) (s : S) (ts : List Lexeme) → length ts ≤ n → Shrinks n second (record_at rules turns last begun s ts)
    unfolding record_at
    record_shrinks turns begun s ts le =
        then second _ (expect_shrinks 40 ts le) (λ opened a.
        then second _ (type_shrinks opened (omega arith)) (λ kind b.
        then second _ (expect_shrinks 44 kind.1 (omega arith)) (λ comma c.
        then second _ (name_shrinks begun kind.0 s comma (omega arith)) (λ name d.
        then second _ (expect_shrinks 41 name.2 (omega arith)) (λ closed e. braces_shrinks turns name.0 name.1 closed e)))))

    found_shrinks : (s : S) (ts : List Lexeme) → length ts ≤ n → Shrinks n second (found_at rules last s ts)
    unfolding found_at
    found_shrinks s ts le =
        then second _ (value_shrinks ts le) (λ token lt. given (on_line token.0.line (rules.find (text_of false token.0) s)) (λ number. (number, token.1)) second (λ x. lt))

    alias_shrinks : (s : S) (ts : List Lexeme) → length ts ≤ n → Shrinks n second (alias_at rules last s ts)
    unfolding alias_at
    alias_shrinks s ts le =
        then second _ (expect_shrinks 40 ts le) (λ opened a.
        then second _ (found_shrinks s opened (omega arith)) (λ found b.
        then second _ (expect_shrinks 44 found.1 (omega arith)) (λ comma c.
        then second _ (second_shrinks found.0 s comma (omega arith)) (λ changed d.
        then second _ (expect_shrinks 41 changed.1 (omega arith)) (λ closed e. shorter (changed.0, closed) e)))))

    statement_of_shrinks : (turns : ℕ) (s : S) (token : Lexeme × List Lexeme) → length token.1 < n → Shrinks n second (statement_of rules turns last s token)
    unfolding statement_of
    statement_of_shrinks turns s token lt =
        choose (begins_record token.0) second _ _ (record_shrinks turns token.0.line s token.1 (omega arith))
        (choose (is_word (codes "alias") token.0) second _ _ (alias_shrinks s token.1 (omega arith)) (fault (at token.0.line (refused_word token.0))))

    statement_shrinks : (turns : ℕ) (s : S) (t : Lexeme) (ts : List Lexeme) → length (t ∷ ts) ≤ n → Shrinks n third (statement_at rules turns last s (t ∷ ts))
    unfolding statement_at
    statement_shrinks turns s t ts le = then third _ (next_shrinks (t ∷ ts) le) (λ token lt. more_shrinks _ (statement_of_shrinks turns s token lt))

-- Turns beyond the number of tokens change nothing.

module _ {S : Type 0} (rules : Rules S) (last : ℕ) where
  others_same : (r : Bool × S × List Lexeme) (f g : S → List Lexeme → Result (S × List Lexeme) DbFault) → ((s : S) → f s r.2 ≡ g s r.2) → and_others f r ≡ and_others g r
  others_same (false, s, rest) f g h = refl
  others_same (true, s, rest) f g h = h s

  body_same : (k m number : ℕ) (s : S) (ts : List Lexeme) → length ts < k → length ts < m → body_at rules k last number s ts ≡ body_at rules m last number s ts
  unfolding repeated
  body_same zero m number s ts a b = absurd (omega arith)
  body_same (suc k) zero number s ts a b = absurd (omega arith)
  body_same (suc k) (suc m) number s ts a b =
      then_same _ _ (entry_shrinks last (length ts) rules number s ts (omega arith)) (λ r lt. others_same r (body_at rules k last number) (body_at rules m last number) (λ u. body_same k m number u r.2 (omega arith) (omega arith)))

  braces_same : (k m number : ℕ) (s : S) (ts : List Lexeme) → length ts < k → length ts < m → braces_at rules k last number s ts ≡ braces_at rules m last number s ts
  unfolding braces_at
  braces_same k m number s [] a b = refl
  braces_same k m number s (t ∷ ts) a b =
      ap (λ (r : Result (S × List Lexeme) DbFault). cond (is_sign_of 123 t.kind) r (Ok (s, t ∷ ts))) (body_same k m number s ts (omega arith) (omega arith))

  record_same : (k m begun : ℕ) (s : S) (ts : List Lexeme) → length ts < k → length ts < m → record_at rules k last begun s ts ≡ record_at rules m last begun s ts
  unfolding record_at
  record_same k m begun s ts a b =
      let n = length ts in
      then_same _ _ (expect_shrinks last n 40 ts (omega arith)) (λ opened c.
      then_same _ _ (type_shrinks last n rules opened (omega arith)) (λ kind d.
      then_same _ _ (expect_shrinks last n 44 kind.1 (omega arith)) (λ comma e.
      then_same _ _ (name_shrinks last n rules begun kind.0 s comma (omega arith)) (λ name f.
      then_same _ _ (expect_shrinks last n 41 name.2 (omega arith)) (λ closed g. braces_same k m name.0 name.1 closed (omega arith) (omega arith))))))

  of_same : (k m : ℕ) (s : S) (token : Lexeme × List Lexeme) → length token.1 < k → length token.1 < m → statement_of rules k last s token ≡ statement_of rules m last s token
  unfolding statement_of
  of_same k m s token a b =
      ap (λ (r : Result (S × List Lexeme) DbFault). cond (begins_record token.0) r (cond (is_word (codes "alias") token.0) (alias_at rules last s token.1) (Err (at token.0.line (refused_word token.0))))) (record_same k m token.0.line s token.1 a b)

  statement_same : (k m : ℕ) (s : S) (t : Lexeme) (ts : List Lexeme) → length (t ∷ ts) < k → length (t ∷ ts) < m → statement_at rules k last s (t ∷ ts) ≡ statement_at rules m last s (t ∷ ts)
  unfolding statement_at
  statement_same k m s t ts a b =
      then_same _ _ (next_shrinks last (length (t ∷ ts)) (t ∷ ts) (omega arith)) (λ token lt. ap (λ (r : Result (S × List Lexeme) DbFault). r >>= with_more rules) (of_same k m s token (omega arith) (omega arith)))

  all_same : (p q k m : ℕ) (s : S) (ts : List Lexeme) → length ts < p → length ts < q → length ts < k → length ts < m
      → repeated (statement_at rules p last) (at last kinds.OpenBody) k s ts ≡ repeated (statement_at rules q last) (at last kinds.OpenBody) m s ts
  unfolding repeated statement_at
  all_same p q zero m s ts a b c d = absurd (omega arith)
  all_same p q (suc k) zero s ts a b c d = absurd (omega arith)
  all_same p q (suc k) (suc m) s [] a b c d = refl
  all_same p q (suc k) (suc m) s (t ∷ ts) a b c d =
      let others : (r : Bool × S × List Lexeme) → length r.2 < length (t ∷ ts) → and_others (repeated (statement_at rules p last) (at last kinds.OpenBody) k) r ≡ and_others (repeated (statement_at rules q last) (at last kinds.OpenBody) m) r =
      λ r lt. others_same r (repeated (statement_at rules p last) (at last kinds.OpenBody) k) (repeated (statement_at rules q last) (at last kinds.OpenBody) m) (λ u. all_same p q k m u r.2 (omega arith) (omega arith) (omega arith) (omega arith)) in
      ap (λ (r : Result (Bool × S × List Lexeme) DbFault). r >>= and_others (repeated (statement_at rules p last) (at last kinds.OpenBody) k)) (statement_same p q s t ts a b)
      ∙ then_same _ _ (statement_shrinks last (length (t ∷ ts)) rules q s t ts (omega arith)) others

  -- Any number of turns above the number of tokens has the same result.
  pub turns_suffice : (s : S) (tokens : List Lexeme) (turns : ℕ) → length tokens < turns → (statements_at rules turns last s tokens >>= λ read. Ok read.0) ≡ filled rules last s tokens
  unfolding filled
  turns_suffice s tokens turns a =
      let all = length tokens + 1 in
      ap (λ (r : Result (S × List Lexeme) DbFault). r >>= λ read. Ok read.0) (all_same turns all turns all s tokens a (omega arith) a (omega arith))
