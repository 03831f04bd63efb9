-- The database that statements make, or the first fault.
--
-- EPICS Application Developer's Guide, "Database Definition", "Record Instance Definition".
use Rattle.std.specs.Prelude.{◌≡◌, ℕ, zero, suc, ◌+◌, length, Bool, true, false, List, [], ◌∷◌, codes, Option, Some, None, option_map, Result, Ok, Err, nat_eq, ◌&&◌, ◌||◌, if◌then◌else◌}
use Rattle.std.specs.Cmp.Lexicographic.{pointwise}
use Rattle.ioc_values.specs.declared.error.BadDbKind.{BadDbKind}
use Rattle.ioc_values.specs.declared.error.BadDbKind.TheVariants as kinds
use Rattle.ioc_fields.specs.declared.record_type.RecordType.{RecordType}
use Rattle.ioc_fields.specs.declared.field_no.FieldNo.{FieldNo}
use Rattle.ioc_dblex.specs.declared.token.TokenKind.{TokenKind}
use Rattle.ioc_dblex.specs.declared.token.TokenKind.TheVariants.{Word, Quoted, Fault}
use Rattle.ioc_values.specs.declared.error.DbFault.{DbFault}
use Rattle.ioc_values.specs.declared.error.LoadError.{LoadError}
use Rattle.ioc_values.specs.declared.error.LoadError.TheVariants as errors
use Rattle.ioc_dblex.specs.Lexing.{Lexeme}
use Rattle.ioc_dblex.specs.Escapes.{unescaped_from}
pub use Rattle.ioc_dblex.specs.Signs.{is_sign_of}
use Rattle.ioc_dbparse.specs.Rules.{Rules}

-- A step, followed by another that takes its result.
infixl 10 ◌>>=◌
abbrev pub ◌>>=◌ : {A B : Type 0} → Result A DbFault → (A → Result B DbFault) → Result B DbFault
(Ok x) >>= f = f x
(Err e) >>= f = Err e

-- Holds if an error is the wanted fault, or a failed allocation.
abbrev pub Fails : {Y : Type 0} → LoadError → Result Y DbFault → Type 0
Fails (errors.BadDb fault) wanted = wanted ≡ Err fault
Fails errors.NoMemory wanted = Unit {0}

-- Holds if the result of a function, mapped by `view`, is the wanted one, unless allocation fails.
abbrev pub Gives : {X Y : Type 0} → (X → Y) → Result X LoadError → Result Y DbFault → Type 0
Gives view (Ok x) wanted = wanted ≡ Ok (view x)
Gives view (Err e) wanted = Fails e wanted

-- Holds if what was read, mapped by `view`, or the fault, is the wanted one.
abbrev pub Reads : {X Y : Type 0} → (X → Y) → Result X DbFault → Result Y DbFault → Type 0
Reads view (Ok x) wanted = wanted ≡ Ok (view x)
Reads view (Err f) wanted = wanted ≡ Err f

-- A fault of this kind on this line.
abbrev pub at : ℕ → BadDbKind → DbFault
at line kind = record { line = line; kind = kind }

-- The result, with a refusal on this line.
abbrev pub on_line : {A : Type 0} → ℕ → Result A BadDbKind → Result A DbFault
on_line line (Ok x) = Ok x
on_line line (Err kind) = Err (at line kind)

-- The value, or this fault if there is none.
abbrev pub or_fault : {A : Type 0} → DbFault → Option A → Result A DbFault
or_fault fault (Some x) = Ok x
or_fault fault None = Err fault

-- Single tokens.

-- The token, or its fault.
abbrev pub sound : Lexeme → TokenKind → List Lexeme → Result (Lexeme × List Lexeme) DbFault
sound token (Fault kind) rest = Err (at token.line kind)
sound token _ rest = Ok (token, rest)

-- The next token of a statement, in a text with this last line.
unfoldable pub next_at : ℕ → List Lexeme → Result (Lexeme × List Lexeme) DbFault
next_at last [] = Err (at last kinds.OpenBody)
next_at last (token ∷ rest) = sound token token.kind rest

-- The tokens after this sign.
unfoldable pub expect : ℕ → ℕ → List Lexeme → Result (List Lexeme) DbFault
expect b last tokens = do
  token ← next_at last tokens
  if is_sign_of b token.0.kind then Ok token.1 else Err (at token.0.line kinds.Syntax)

-- Holds of a bareword and a quoted text.
abbrev pub is_value : TokenKind → Bool
is_value Word = true
is_value Quoted = true
is_value _ = false

-- The next token, which is a bareword or a quoted text.
unfoldable pub value_at : ℕ → List Lexeme → Result (Lexeme × List Lexeme) DbFault
value_at last tokens = do
  token ← next_at last tokens
  if is_value token.0.kind then Ok token else Err (at token.0.line kinds.Syntax)

-- Holds of a bareword.
abbrev pub is_bareword : TokenKind → Bool
is_bareword Word = true
is_bareword _ = false

-- Holds of this bareword.
abbrev pub is_word : List ℕ → Lexeme → Bool
is_word word token = is_bareword token.kind && pointwise nat_eq token.text word

-- The text of a token, in a name or in the value of a field.
abbrev pub text_of : Bool → Lexeme → List ℕ
text_of in_value token = unescaped_from in_value false token.text

-- The line on which a name is refused: too many records are refused on the line of the word
-- `record`.
abbrev pub name_line : ℕ → ℕ → BadDbKind → ℕ
name_line begun line kinds.TooMany = begun
name_line begun line _ = line

-- Holds of a word of a database definition, whose statements this grammar leaves out.
unfoldable pub is_left_out : Lexeme → Bool
is_left_out token =
    is_word (codes "menu") token || (is_word (codes "recordtype") token || (is_word (codes "device") token || (is_word (codes "driver") token || (is_word (codes "include") token || (is_word (codes "path") token || (is_word (codes "addpath") token || (is_word (codes "breaktable") token || (is_word (codes "registrar") token || (is_word (codes "function") token || (is_word (codes "variable") token || is_word (codes "link") token))))))))))

-- Holds of a word that begins a record.
unfoldable pub begins_record : Lexeme → Bool
begins_record token = is_word (codes "record") token || is_word (codes "grecord") token

-- Why no statement begins with this token.
abbrev pub refused_word : Lexeme → BadDbKind
refused_word token = if is_left_out token then kinds.LeftOut else kinds.Syntax

-- Steps over the databases of some rules.

-- The other steps, as long as one reports that there may be more.
abbrev pub and_others : {S : Type 0} → (S → List Lexeme → Result (S × List Lexeme) DbFault) → Bool × S × List Lexeme → Result (S × List Lexeme) DbFault
and_others more (false, s, rest) = Ok (s, rest)
and_others more (true, s, rest) = more s rest

-- The step, repeated as long as it reports that there may be more, in at most this many turns.
unfoldable pub repeated : {S : Type 0} → (S → List Lexeme → Result (Bool × S × List Lexeme) DbFault) → DbFault → ℕ → S → List Lexeme → Result (S × List Lexeme) DbFault
repeated step out zero s tokens = Err out
repeated step out (suc turns) s tokens = step s tokens >>= and_others (repeated step out turns)

module _ {S : Type 0} (rules : Rules S) where
  -- F of `field(F, V)`.
  unfoldable pub field_at : ℕ → ℕ → S → List Lexeme → Result (FieldNo × List Lexeme) DbFault
  field_at last number s tokens = do
    token ← value_at last tokens
    field ← on_line token.0.line (rules.field_of number (text_of false token.0) s)
    Ok (field, token.1)

  -- V of `field(F, V)`.
  unfoldable pub set_at : ℕ → ℕ → FieldNo → S → List Lexeme → Result (S × List Lexeme) DbFault
  set_at last number field s tokens = do
    token ← value_at last tokens
    changed ← on_line token.0.line (rules.set number field (text_of true token.0) s)
    Ok (changed, token.1)

  -- `(F, V)`.
  unfoldable pub setting_at : ℕ → ℕ → S → List Lexeme → Result (S × List Lexeme) DbFault
  setting_at last number s tokens = do
    opened ← expect 40 last tokens
    field ← field_at last number s opened
    comma ← expect 44 last field.1
    changed ← set_at last number field.0 s comma
    closed ← expect 41 last changed.1
    Ok (changed.0, closed)

  -- `(K, V)` of `info(K, V)`, which has no effect.
  unfoldable pub info_at : ℕ → S → List Lexeme → Result (S × List Lexeme) DbFault
  info_at last s tokens = do
    opened ← expect 40 last tokens
    key ← value_at last opened
    comma ← expect 44 last key.1
    value ← value_at last comma
    closed ← expect 41 last value.1
    Ok (s, closed)

  -- A, a second name of the record with this number.
  unfoldable pub second_at : ℕ → ℕ → S → List Lexeme → Result (S × List Lexeme) DbFault
  second_at last number s tokens = do
    token ← value_at last tokens
    changed ← on_line token.0.line (rules.alias number (text_of false token.0) s)
    Ok (changed, token.1)

  -- `(A)` of `alias(A)`.
  unfoldable pub alias_in : ℕ → ℕ → S → List Lexeme → Result (S × List Lexeme) DbFault
  alias_in last number s tokens = do
    opened ← expect 40 last tokens
    changed ← second_at last number s opened
    closed ← expect 41 last changed.1
    Ok (changed.0, closed)

  -- The result, after which there may be more.
  abbrev pub with_more : S × List Lexeme → Result (Bool × S × List Lexeme) DbFault
  with_more r = Ok (true, r.0, r.1)

  -- `field`, `info` or `alias` with what follows it.
  unfoldable pub entry_of : ℕ → ℕ → S → Lexeme × List Lexeme → Result (S × List Lexeme) DbFault
  entry_of last number s token =
      if is_word (codes "field") token.0 then setting_at last number s token.1
      else (if is_word (codes "info") token.0 then info_at last s token.1
      else (if is_word (codes "alias") token.0 then alias_in last number s token.1 else Err (at token.0.line kinds.Syntax)))

  -- `}`, or an entry.
  abbrev pub entry_by : ℕ → ℕ → S → Lexeme × List Lexeme → Result (Bool × S × List Lexeme) DbFault
  entry_by last number s token = if is_sign_of 125 token.0.kind then Ok (false, s, token.1) else (entry_of last number s token >>= with_more)

  -- One entry of a body.
  unfoldable pub entry_at : ℕ → ℕ → S → List Lexeme → Result (Bool × S × List Lexeme) DbFault
  entry_at last number s tokens = next_at last tokens >>= entry_by last number s

  -- `field(F, V) info(K, V) alias(A) .. }`.
  abbrev pub body_at : ℕ → ℕ → ℕ → S → List Lexeme → Result (S × List Lexeme) DbFault
  body_at turns last number s tokens = repeated (entry_at last number) (at last kinds.OpenBody) turns s tokens

  -- `{ .. }`, which may be missing.
  unfoldable pub braces_at : ℕ → ℕ → ℕ → S → List Lexeme → Result (S × List Lexeme) DbFault
  braces_at turns last number s [] = Ok (s, [])
  braces_at turns last number s (token ∷ rest) = if is_sign_of 123 token.kind then body_at turns last number s rest else Ok (s, token ∷ rest)

  -- The type that a text names: `Some None` for `*`, which means any type that the record has.
  unfoldable pub named_type : List ℕ → Option (Option RecordType)
  named_type text = if pointwise nat_eq text (codes "*") then Some None else option_map Some (rules.type_of text)

  -- TYPE.
  abbrev pub type_by : Lexeme × List Lexeme → Result (Option RecordType × List Lexeme) DbFault
  type_by token =
      if is_sign_of 42 token.0.kind then Ok (None, token.1)
      else (if is_value token.0.kind then (or_fault (at token.0.line kinds.BadType) (named_type (text_of false token.0)) >>= λ kind. Ok (kind, token.1)) else Err (at token.0.line kinds.Syntax))

  unfoldable pub type_at : ℕ → List Lexeme → Result (Option RecordType × List Lexeme) DbFault
  type_at last tokens = next_at last tokens >>= type_by

  -- A record that exists, in an unchanged database.
  abbrev pub in_place : S → Result ℕ BadDbKind → Result (ℕ × S) BadDbKind
  in_place s (Ok number) = Ok (number, s)
  in_place s (Err kind) = Err kind

  -- The record with this type and name. With any type, the record must exist.
  abbrev pub opened : Option RecordType → List ℕ → S → Result (ℕ × S) BadDbKind
  opened None name s = in_place s (rules.find name s)
  opened (Some kind) name s = rules.add kind name s

  -- A record that was found or added, or why it could not be.
  abbrev pub named : ℕ → Lexeme × List Lexeme → Result (ℕ × S) BadDbKind → Result (ℕ × S × List Lexeme) DbFault
  named begun token (Ok added) = Ok (added.0, added.1, token.1)
  named begun token (Err kind) = Err (at (name_line begun token.0.line kind) kind)

  -- NAME.
  unfoldable pub name_at : ℕ → ℕ → Option RecordType → S → List Lexeme → Result (ℕ × S × List Lexeme) DbFault
  name_at last begun kind s tokens = do
    token ← value_at last tokens
    named begun token (opened kind (text_of false token.0) s)

  -- `(TYPE, NAME) { .. }`.
  unfoldable pub record_at : ℕ → ℕ → ℕ → S → List Lexeme → Result (S × List Lexeme) DbFault
  record_at turns last begun s tokens = do
    opened ← expect 40 last tokens
    kind ← type_at last opened
    comma ← expect 44 last kind.1
    name ← name_at last begun kind.0 s comma
    closed ← expect 41 last name.2
    braces_at turns last name.0 name.1 closed

  -- NAME of `alias(NAME, A)`.
  unfoldable pub found_at : ℕ → S → List Lexeme → Result (ℕ × List Lexeme) DbFault
  found_at last s tokens = do
    token ← value_at last tokens
    number ← on_line token.0.line (rules.find (text_of false token.0) s)
    Ok (number, token.1)

  -- `(NAME, A)`.
  unfoldable pub alias_at : ℕ → S → List Lexeme → Result (S × List Lexeme) DbFault
  alias_at last s tokens = do
    opened ← expect 40 last tokens
    found ← found_at last s opened
    comma ← expect 44 last found.1
    changed ← second_at last found.0 s comma
    closed ← expect 41 last changed.1
    Ok (changed.0, closed)

  -- `record`, `grecord` or `alias` with what follows it.
  unfoldable pub statement_of : ℕ → ℕ → S → Lexeme × List Lexeme → Result (S × List Lexeme) DbFault
  statement_of turns last s token =
      if begins_record token.0 then record_at turns last token.0.line s token.1
      else (if is_word (codes "alias") token.0 then alias_at last s token.1 else Err (at token.0.line (refused_word token.0)))

  abbrev pub statement_by : ℕ → ℕ → S → Lexeme × List Lexeme → Result (Bool × S × List Lexeme) DbFault
  statement_by turns last s token = statement_of turns last s token >>= with_more

  -- One statement, or none at the end of the text.
  unfoldable pub statement_at : ℕ → ℕ → S → List Lexeme → Result (Bool × S × List Lexeme) DbFault
  statement_at turns last s [] = Ok (false, s, [])
  statement_at turns last s (token ∷ rest) = next_at last (token ∷ rest) >>= statement_by turns last s

  -- All statements.
  abbrev pub statements_at : ℕ → ℕ → S → List Lexeme → Result (S × List Lexeme) DbFault
  statements_at turns last s tokens = repeated (statement_at turns last) (at last kinds.OpenBody) turns s tokens

  -- The database that these tokens make of a database, in a text with this last line. Each turn
  -- except the last takes at least one token.
  unfoldable pub filled : ℕ → S → List Lexeme → Result S DbFault
  filled last s tokens = statements_at (length tokens + 1) last s tokens >>= λ read. Ok read.0
