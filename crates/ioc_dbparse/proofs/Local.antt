-- Readers of tokens don't depend on the tokens after a refused one.
use Rattle.std.proofs.Common.{◌≡◌, ℕ, zero, suc, Bool, true, false, cond, List, [], ◌∷◌, ◌++◌, Option, Some, None, Result, Ok, Err, length, ◌+◌, ◌<◌, arith, length-append, sym, ◌∙◌, refl, codes}
use Rattle.ioc_values.specs.declared.error.BadDbKind.{BadDbKind}
use Rattle.ioc_values.specs.declared.error.BadDbKind.TheVariants as kinds
use Rattle.ioc_fields.specs.declared.record_type.RecordType.{RecordType}
use Rattle.ioc_fields.specs.declared.field_no.FieldNo.{FieldNo}
use Rattle.ioc_dblex.specs.declared.token.TokenKind.{TokenKind}
use Rattle.ioc_dblex.specs.declared.token.TokenKind.TheVariants.{Sign, Word, Quoted, Fault}
use Rattle.ioc_values.specs.declared.error.DbFault.{DbFault}
use Rattle.ioc_dblex.specs.Lexing.{Lexeme}
use Rattle.ioc_dbparse.specs.Rules.{Rules}
use Rattle.ioc_dbparse.specs.Statements.{◌>>=◌, at, on_line, or_fault, sound, next_at, is_sign_of, expect, is_value, value_at, is_word, text_of, field_at, set_at, setting_at, info_at, second_at, alias_in, with_more, entry_of, entry_at, repeated, and_others, body_at, braces_at, named_type, type_at, opened, named, name_line, name_at, record_at, found_at, alias_at, begins_record, refused_word, statement_of, statement_by, statement_at, filled}
use Rattle.ioc_dbparse.proofs.Shrinking.{turns_suffice}
use Rattle.ioc_dbparse.proofs.Agreeing.{Agrees, both, refused, short, Refused, taken, ended, agrees_bind, agrees_cond, refused_then, fault_stays, Goes, agreed, at_end, goes_bind, goes_then, refused_goes}

on_line_local : {A : Type 0} (line : ℕ) (r : Result A BadDbKind) → Agrees (λ x. x) (on_line line r) (on_line line r)
on_line_local line (Ok x) = both x
on_line_local line (Err kind) = refused (at line kind)

or_fault_local : {A : Type 0} (fault : DbFault) (o : Option A) → Agrees (λ x. x) (or_fault fault o) (or_fault fault o)
or_fault_local fault (Some x) = both x
or_fault_local fault None = refused fault

module _ (last last' : ℕ) (more : List Lexeme) where
  abbrev onto : List Lexeme → List Lexeme
  onto ts = ts ++ more

  abbrev onto₂ : {A : Type 0} → A × List Lexeme → A × List Lexeme
  onto₂ p = (p.0, p.1 ++ more)

  abbrev second : {A : Type 0} → A × List Lexeme → List Lexeme
  second p = p.1

  abbrev third : {A B : Type 0} → A × B × List Lexeme → List Lexeme
  third p = p.2

  abbrev onto₃ : {A B : Type 0} → A × B × List Lexeme → A × B × List Lexeme
  onto₃ p = (p.0, p.1, p.2 ++ more)

  sound_local : (token : Lexeme) (kind : TokenKind) (ts : List Lexeme) → Agrees onto₂ (sound token kind ts) (sound token kind (ts ++ more))
  sound_local token (Sign b) ts = both (token, ts)
  sound_local token Word ts = both (token, ts)
  sound_local token Quoted ts = both (token, ts)
  sound_local token (Fault kind) ts = refused (at token.line kind)

  next_local : (ts : List Lexeme) → Agrees onto₂ (next_at last ts) (next_at last' (ts ++ more))
  unfolding next_at
  next_local [] = short (at last kinds.OpenBody) (next_at last' more) refl
  next_local (token ∷ ts) = sound_local token token.kind ts

  test_rest : (t : Bool) (token : Lexeme × List Lexeme) → Agrees onto (cond t (Ok token.1) (Err (at token.0.line kinds.Syntax))) (cond t (Ok (token.1 ++ more)) (Err (at token.0.line kinds.Syntax)))
  test_rest true token = both token.1
  test_rest false token = refused (at token.0.line kinds.Syntax)

  expect_local : (b : ℕ) (ts : List Lexeme) → Agrees onto (expect b last ts) (expect b last' (ts ++ more))
  unfolding expect
  expect_local b ts = agrees_bind onto _ _ (next_local ts) (λ token. test_rest (is_sign_of b token.0.kind) token)

  test_token : (t : Bool) (token : Lexeme × List Lexeme) → Agrees onto₂ (cond t (Ok token) (Err (at token.0.line kinds.Syntax))) (cond t (Ok (token.0, token.1 ++ more)) (Err (at token.0.line kinds.Syntax)))
  test_token true token = both token
  test_token false token = refused (at token.0.line kinds.Syntax)

  value_local : (ts : List Lexeme) → Agrees onto₂ (value_at last ts) (value_at last' (ts ++ more))
  unfolding value_at
  value_local ts = agrees_bind onto₂ _ _ (next_local ts) (λ token. test_token (is_value token.0.kind) token)

  module _ {S : Type 0} (rules : Rules S) where
    field_local : (number : ℕ) (s : S) (ts : List Lexeme) → Agrees onto₂ (field_at rules last number s ts) (field_at rules last' number s (ts ++ more))
    unfolding field_at
    field_local number s ts =
        agrees_bind onto₂ _ _ (value_local ts) (λ token. agrees_bind onto₂ _ _ (on_line_local token.0.line (rules.field_of number (text_of false token.0) s)) (λ field. both (field, token.1)))

    set_local : (number : ℕ) (field : FieldNo) (s : S) (ts : List Lexeme) → Agrees onto₂ (set_at rules last number field s ts) (set_at rules last' number field s (ts ++ more))
    unfolding set_at
    set_local number field s ts =
        agrees_bind onto₂ _ _ (value_local ts) (λ token. agrees_bind onto₂ _ _ (on_line_local token.0.line (rules.set number field (text_of true token.0) s)) (λ changed. both (changed, token.1)))

    setting_local : (number : ℕ) (s : S) (ts : List Lexeme) → Agrees onto₂ (setting_at rules last number s ts) (setting_at rules last' number s (ts ++ more))
    unfolding setting_at
    setting_local number s ts =
        agrees_bind onto₂ _ _ (expect_local 40 ts) (λ opened.
        agrees_bind onto₂ _ _ (field_local number s opened) (λ field.
        agrees_bind onto₂ _ _ (expect_local 44 field.1) (λ comma.
        agrees_bind onto₂ _ _ (set_local number field.0 s comma) (λ changed.
        agrees_bind onto₂ _ _ (expect_local 41 changed.1) (λ closed. both (changed.0, closed))))))

    others_local : (r : Bool × S × List Lexeme) (f g : S → List Lexeme → Result (S × List Lexeme) DbFault) → ((s : S) (ts : List Lexeme) → Agrees onto₂ (f s ts) (g s (ts ++ more))) → Agrees onto₂ (and_others f r) (and_others g (r.0, r.1, r.2 ++ more))
    others_local (false, s, rest) f g h = both (s, rest)
    others_local (true, s, rest) f g h = h s rest

    info_local : (s : S) (ts : List Lexeme) → Agrees onto₂ (info_at rules last s ts) (info_at rules last' s (ts ++ more))
    unfolding info_at
    info_local s ts =
        agrees_bind onto₂ _ _ (expect_local 40 ts) (λ opened.
        agrees_bind onto₂ _ _ (value_local opened) (λ key.
        agrees_bind onto₂ _ _ (expect_local 44 key.1) (λ comma.
        agrees_bind onto₂ _ _ (value_local comma) (λ value.
        agrees_bind onto₂ _ _ (expect_local 41 value.1) (λ closed. both (s, closed))))))

    second_local : (number : ℕ) (s : S) (ts : List Lexeme) → Agrees onto₂ (second_at rules last number s ts) (second_at rules last' number s (ts ++ more))
    unfolding second_at
    second_local number s ts =
        agrees_bind onto₂ _ _ (value_local ts) (λ token. agrees_bind onto₂ _ _ (on_line_local token.0.line (rules.alias number (text_of false token.0) s)) (λ changed. both (changed, token.1)))

    alias_in_local : (number : ℕ) (s : S) (ts : List Lexeme) → Agrees onto₂ (alias_in rules last number s ts) (alias_in rules last' number s (ts ++ more))
    unfolding alias_in
    alias_in_local number s ts =
        agrees_bind onto₂ _ _ (expect_local 40 ts) (λ opened.
        agrees_bind onto₂ _ _ (second_local number s opened) (λ changed.
        agrees_bind onto₂ _ _ (expect_local 41 changed.1) (λ closed. both (changed.0, closed))))

    entry_of_local : (number : ℕ) (s : S) (token : Lexeme × List Lexeme) → Agrees onto₂ (entry_of rules last number s token) (entry_of rules last' number s (token.0, token.1 ++ more))
    unfolding entry_of
    entry_of_local number s token =
        agrees_cond (is_word (codes "field") token.0) _ _ _ _ (setting_local number s token.1)
        (agrees_cond (is_word (codes "info") token.0) _ _ _ _ (info_local s token.1)
        (agrees_cond (is_word (codes "alias") token.0) _ _ _ _ (alias_in_local number s token.1) (refused (at token.0.line kinds.Syntax))))

    more_local : (r after : Result (S × List Lexeme) DbFault) → Agrees onto₂ r after → Agrees onto₃ (r >>= with_more rules) (after >>= with_more rules)
    more_local r after h = agrees_bind onto₃ _ _ h (λ x. both (true, x.0, x.1))

    entry_step : (t : Bool) (number : ℕ) (s : S) (token : Lexeme × List Lexeme) (r after : Result (Bool × S × List Lexeme) DbFault) → Agrees onto₃ r after → Agrees onto₃ (cond t (Ok (false, s, token.1)) r) (cond t (Ok (false, s, token.1 ++ more)) after)
    entry_step true number s token r after h = both (false, s, token.1)
    entry_step false number s token r after h = h

    entry_local : (number : ℕ) (s : S) (ts : List Lexeme) → Agrees onto₃ (entry_at rules last number s ts) (entry_at rules last' number s (ts ++ more))
    unfolding entry_at
    entry_local number s ts =
        agrees_bind onto₃ _ _ (next_local ts) (λ token. entry_step (is_sign_of 125 token.0.kind) number s token _ _ (more_local _ _ (entry_of_local number s token)))

    body_local : (turns number : ℕ) (s : S) (ts : List Lexeme) → Agrees onto₂ (body_at rules turns last number s ts) (body_at rules turns last' number s (ts ++ more))
    unfolding repeated
    body_local zero number s ts = short (at last kinds.OpenBody) (Err (at last' kinds.OpenBody)) refl
    body_local (suc turns) number s ts =
        agrees_bind onto₂ _ _ (entry_local number s ts) (λ r. others_local r (body_at rules turns last number) (body_at rules turns last' number) (body_local turns number))

    braces_local : (turns number : ℕ) (s : S) (ts : List Lexeme) → Goes onto₂ second (braces_at rules turns last number s ts) (braces_at rules turns last' number s (ts ++ more))
    unfolding braces_at
    braces_local turns number s [] = at_end (s, []) (braces_at rules turns last' number s more) refl
    braces_local turns number s (t ∷ ts) = agreed _ _ (agrees_cond (is_sign_of 123 t.kind) _ _ _ _ (body_local turns number s ts) (both (s, t ∷ ts)))

    type_local : (ts : List Lexeme) → Agrees onto₂ (type_at rules last ts) (type_at rules last' (ts ++ more))
    unfolding type_at
    type_local ts =
        agrees_bind onto₂ _ _ (next_local ts) (λ token.
        agrees_cond (is_sign_of 42 token.0.kind) _ _ _ _ (both (None, token.1))
        (agrees_cond (is_value token.0.kind) _ _ _ _
        (agrees_bind onto₂ _ _ (or_fault_local (at token.0.line kinds.BadType) (named_type rules (text_of false token.0))) (λ kind. both (kind, token.1)))
        (refused (at token.0.line kinds.Syntax))))

    named_local : (begun : ℕ) (token : Lexeme × List Lexeme) (r : Result (ℕ × S) BadDbKind) → Agrees onto₃ (named rules begun token r) (named rules begun (token.0, token.1 ++ more) r)
    named_local begun token (Ok added) = both (added.0, added.1, token.1)
    named_local begun token (Err kind) = refused (at (name_line begun token.0.line kind) kind)

    name_local : (begun : ℕ) (kind : Option RecordType) (s : S) (ts : List Lexeme) → Agrees onto₃ (name_at rules last begun kind s ts) (name_at rules last' begun kind s (ts ++ more))
    unfolding name_at
    name_local begun kind s ts = agrees_bind onto₃ _ _ (value_local ts) (λ token. named_local begun token (opened rules kind (text_of false token.0) s))

    record_local : (turns begun : ℕ) (s : S) (ts : List Lexeme) → Goes onto₂ second (record_at rules turns last begun s ts) (record_at rules turns last' begun s (ts ++ more))
    unfolding record_at
    record_local turns begun s ts =
        goes_bind onto₂ second _ _ (expect_local 40 ts) (λ opened.
        goes_bind onto₂ second _ _ (type_local opened) (λ kind.
        goes_bind onto₂ second _ _ (expect_local 44 kind.1) (λ comma.
        goes_bind onto₂ second _ _ (name_local begun kind.0 s comma) (λ name.
        goes_bind onto₂ second _ _ (expect_local 41 name.2) (λ closed. braces_local turns name.0 name.1 closed)))))

    found_local : (s : S) (ts : List Lexeme) → Agrees onto₂ (found_at rules last s ts) (found_at rules last' s (ts ++ more))
    unfolding found_at
    found_local s ts =
        agrees_bind onto₂ _ _ (value_local ts) (λ token. agrees_bind onto₂ _ _ (on_line_local token.0.line (rules.find (text_of false token.0) s)) (λ number. both (number, token.1)))

    alias_local : (s : S) (ts : List Lexeme) → Agrees onto₂ (alias_at rules last s ts) (alias_at rules last' s (ts ++ more))
    unfolding alias_at
    alias_local s ts =
        agrees_bind onto₂ _ _ (expect_local 40 ts) (λ opened.
        agrees_bind onto₂ _ _ (found_local s opened) (λ found.
        agrees_bind onto₂ _ _ (expect_local 44 found.1) (λ comma.
        agrees_bind onto₂ _ _ (second_local found.0 s comma) (λ changed.
        agrees_bind onto₂ _ _ (expect_local 41 changed.1) (λ closed. both (changed.0, closed))))))

    goes_cond : (t : Bool) (r after q later : Result (S × List Lexeme) DbFault) → Goes onto₂ second r after → Goes onto₂ second q later → Goes onto₂ second (cond t r q) (cond t after later)
    goes_cond true r after q later h k = h
    goes_cond false r after q later h k = k

    statement_of_local : (turns : ℕ) (s : S) (token : Lexeme × List Lexeme) → Goes onto₂ second (statement_of rules turns last s token) (statement_of rules turns last' s (token.0, token.1 ++ more))
    unfolding statement_of
    statement_of_local turns s token =
        goes_cond (begins_record token.0) _ _ _ _ (record_local turns token.0.line s token.1)
        (agreed _ _ (agrees_cond (is_word (codes "alias") token.0) _ _ _ _ (alias_local s token.1) (refused (at token.0.line (refused_word token.0)))))

    statement_by_local : (turns : ℕ) (s : S) (token : Lexeme × List Lexeme) → Goes onto₃ third (statement_by rules turns last s token) (statement_by rules turns last' s (token.0, token.1 ++ more))
    statement_by_local turns s token = goes_then onto₃ third (λ x. (true, x.0, x.1)) (statement_of_local turns s token) (λ x. refl) (λ x. refl)

    statement_local : (turns : ℕ) (s : S) (t : Lexeme) (ts : List Lexeme) → Goes onto₃ third (statement_at rules turns last s (t ∷ ts)) (statement_at rules turns last' s (t ∷ ts ++ more))
    unfolding statement_at
    statement_local turns s t ts = goes_bind onto₃ third _ _ (next_local (t ∷ ts)) (λ token. statement_by_local turns s token)

    -- At the end of the tokens nothing is read.
    others_end : (all turns : ℕ) (r : Bool × S × List Lexeme) (later : Result (S × List Lexeme) DbFault) → r.2 ≡ [] → Refused (and_others (repeated (statement_at rules all last) (at last kinds.OpenBody) turns) r) later
    unfolding repeated statement_at
    others_end all turns (false, s, rest) later e = taken (s, rest) later
    others_end all zero (true, s, rest) later e = ended (at last kinds.OpenBody) later refl
    others_end all (suc turns) (true, s, rest) later e = rw e (taken (s, []) later)

    others_refused : (r : Bool × S × List Lexeme) (f g : S → List Lexeme → Result (S × List Lexeme) DbFault) → ((s : S) (ts : List Lexeme) → Refused (f s ts) (g s (ts ++ more))) → Refused (and_others f r) (and_others g (r.0, r.1, r.2 ++ more))
    others_refused (false, s, rest) f g h = taken (s, rest) (Ok (s, rest ++ more))
    others_refused (true, s, rest) f g h = h s rest

    repeated_refused : (all turns : ℕ) (s : S) (ts : List Lexeme)
        → Refused (repeated (statement_at rules all last) (at last kinds.OpenBody) turns s ts) (repeated (statement_at rules all last') (at last' kinds.OpenBody) turns s (ts ++ more))
    unfolding repeated statement_at
    repeated_refused all zero s ts = ended (at last kinds.OpenBody) (Err (at last' kinds.OpenBody)) refl
    repeated_refused all (suc turns) s [] = taken (s, []) (repeated (statement_at rules all last') (at last' kinds.OpenBody) (suc turns) s more)
    repeated_refused all (suc turns) s (t ∷ ts) =
        refused_goes _ _ (statement_local all s t ts) (λ r. others_refused r (repeated (statement_at rules all last) (at last kinds.OpenBody) turns) (repeated (statement_at rules all last') (at last' kinds.OpenBody) turns) (repeated_refused all turns)) (others_end all turns)

    -- The fault of some tokens is that of all tokens that begin with them.
    pub filled_local : (s : S) (ts : List Lexeme) (e : DbFault) → filled rules last s ts ≡ Err e → (e.kind ≡ kinds.OpenBody → ⊥) → filled rules last' s (ts ++ more) ≡ Err e
    filled_local s ts e i inside =
        let all = length (ts ++ more) + 1 in
        let few : length ts < all = omega (arith, length-append ts more) in
        sym (turns_suffice rules last' s (ts ++ more) all (omega arith)) ∙ fault_stays _ _ e (refused_then (λ r. r.0) (repeated_refused all all s ts)) (turns_suffice rules last s ts all few ∙ i) inside
