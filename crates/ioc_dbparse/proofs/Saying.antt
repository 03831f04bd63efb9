-- Tokens of pieces, on any lines, read as statements.
use Rattle.std.proofs.Common.{◌≡◌, ℕ, zero, suc, ◌+◌, ◌≤◌, ◌<◌, true, false, List, [], ◌∷◌, ◌++◌, length, Result, Ok, refl, sym, ap, ◌∙◌, arith, codes}
use Rattle.ioc_values.specs.declared.error.BadDbKind.TheVariants as kinds
use Rattle.ioc_fields.specs.declared.field_no.FieldNo.{FieldNo}
use Rattle.ioc_dblex.specs.declared.token.TokenKind.TheVariants.{Sign, Word, Quoted}
use Rattle.ioc_values.specs.declared.error.DbFault.{DbFault}
use Rattle.ioc_dblex.specs.Lexing.{Lexeme}
use Rattle.ioc_dbparse.specs.Rules.{Rules}
use Rattle.ioc_dbparse.specs.Statements.{at, next_at, expect, value_at, field_at, set_at, setting_at, info_at, second_at, alias_in, entry_of, entry_at, repeated, body_at, braces_at, type_at, name_at, record_at, found_at, alias_at, begins_record, statement_of, statement_at, filled}
use Rattle.ioc_dbparse.specs.Spelling.{escaped_of, Entry, Field, Info, Second, Opening, Record, Grecord, Statement, Full, Bare, Alias, Piece, Call, Mark, Text, entries_pieces, opening_word, pieces_of, Sets, Opens, Makes}
use Rattle.ioc_dbparse.proofs.Shrinking.{turns_suffice}
use Rattle.ioc_dbparse.proofs.Spelled.{lexeme, lexemes}
use Rattle.ioc_dbparse.proofs.Reading.{again, entries_count}

-- Holds of tokens that have the content of these pieces, on any lines.
abbrev pub Says : List Piece → List Lexeme → Type 0
Says [] ts = ts ≡ []
Says (Call word ∷ ps) ts = (l : ℕ) × (m : ℕ) × (rest : List Lexeme) × (ts ≡ lexeme l Word word ∷ lexeme m (Sign 40) [] ∷ rest) × Says ps rest
Says (Mark b ∷ ps) ts = (l : ℕ) × (rest : List Lexeme) × (ts ≡ lexeme l (Sign b) [] ∷ rest) × Says ps rest
Says (Text text ∷ ps) ts = (l : ℕ) × (rest : List Lexeme) × (ts ≡ lexeme l Quoted (escaped_of text) ∷ rest) × Says ps rest

-- The pieces of one line, followed by others.
pub says_append : (line : ℕ) (ps qs : List Piece) (us : List Lexeme) → Says qs us → Says (ps ++ qs) (lexemes line ps ++ us)
says_append line [] qs us h = h
says_append line (Call word ∷ ps) qs us h = (line, line, lexemes line ps ++ us, refl, says_append line ps qs us h)
says_append line (Mark b ∷ ps) qs us h = (line, lexemes line ps ++ us, refl, says_append line ps qs us h)
says_append line (Text text ∷ ps) qs us h = (line, lexemes line ps ++ us, refl, says_append line ps qs us h)

pub says_self : (line : ℕ) (ps : List Piece) → Says ps (lexemes line ps)
says_self line [] = refl
says_self line (Call word ∷ ps) = (line, line, lexemes line ps, refl, says_self line ps)
says_self line (Mark b ∷ ps) = (line, lexemes line ps, refl, says_self line ps)
says_self line (Text text ∷ ps) = (line, lexemes line ps, refl, says_self line ps)

module _ {S : Type 0} (rules : Rules S) (last : ℕ) where
  setting_said : (a b c d e : ℕ) (number : ℕ) (s : S) (f v : List ℕ) (field : FieldNo) (next : S) (rest : List Lexeme) → rules.field_of number f s ≡ Ok field → rules.set number field v s ≡ Ok next
      → setting_at rules last number s (lexeme a (Sign 40) [] ∷ lexeme b Quoted (escaped_of f) ∷ lexeme c (Sign 44) [] ∷ lexeme d Quoted (escaped_of v) ∷ lexeme e (Sign 41) [] ∷ rest) ≡ Ok (next, rest)
  unfolding setting_at expect next_at value_at field_at set_at
  setting_said a b c d e number s f v field next rest i j = rw (again false f, i, again true v, j) refl

  info_said : (a b c d e : ℕ) (s : S) (k v : List ℕ) (rest : List Lexeme)
      → info_at rules last s (lexeme a (Sign 40) [] ∷ lexeme b Quoted k ∷ lexeme c (Sign 44) [] ∷ lexeme d Quoted v ∷ lexeme e (Sign 41) [] ∷ rest) ≡ Ok (s, rest)
  unfolding info_at expect next_at value_at
  info_said a b c d e s k v rest = refl

  second_said : (b e : ℕ) (number : ℕ) (s : S) (name : List ℕ) (next : S) (rest : List Lexeme) → rules.alias number name s ≡ Ok next
      → second_at rules last number s (lexeme b Quoted (escaped_of name) ∷ lexeme e (Sign 41) [] ∷ rest) ≡ Ok (next, lexeme e (Sign 41) [] ∷ rest)
  unfolding second_at next_at value_at
  second_said b e number s name next rest i = rw (again false name, i) refl

  alias_in_said : (a b e : ℕ) (number : ℕ) (s : S) (name : List ℕ) (next : S) (rest : List Lexeme) → rules.alias number name s ≡ Ok next
      → alias_in rules last number s (lexeme a (Sign 40) [] ∷ lexeme b Quoted (escaped_of name) ∷ lexeme e (Sign 41) [] ∷ rest) ≡ Ok (next, rest)
  unfolding alias_in expect next_at
  alias_in_said a b e number s name next rest i = rw (second_said b e number s name next rest i) refl

  field_entry : (line number : ℕ) (s next : S) (tokens rest : List Lexeme) → setting_at rules last number s tokens ≡ Ok (next, rest)
      → entry_at rules last number s (lexeme line Word (codes "field") ∷ tokens) ≡ Ok (true, next, rest)
  unfolding entry_at entry_of next_at
  field_entry line number s next tokens rest i = rw i refl

  info_entry : (line number : ℕ) (s next : S) (tokens rest : List Lexeme) → info_at rules last s tokens ≡ Ok (next, rest)
      → entry_at rules last number s (lexeme line Word (codes "info") ∷ tokens) ≡ Ok (true, next, rest)
  unfolding entry_at entry_of next_at
  info_entry line number s next tokens rest i = rw i refl

  alias_entry : (line number : ℕ) (s next : S) (tokens rest : List Lexeme) → alias_in rules last number s tokens ≡ Ok (next, rest)
      → entry_at rules last number s (lexeme line Word (codes "alias") ∷ tokens) ≡ Ok (true, next, rest)
  unfolding entry_at entry_of next_at
  alias_entry line number s next tokens rest i = rw i refl

  end_said : (line number : ℕ) (s : S) (rest : List Lexeme) → entry_at rules last number s (lexeme line (Sign 125) [] ∷ rest) ≡ Ok (false, s, rest)
  unfolding entry_at next_at
  end_said line number s rest = refl

  body_said : (turns number : ℕ) (es : List Entry) (s t : S) (behind : List Piece) (ts : List Lexeme) → length es < turns → Sets rules number es s t → Says (entries_pieces es (Mark 125 ∷ behind)) ts
      → (rest : List Lexeme) × (body_at rules turns last number s ts ≡ Ok (t, rest)) × Says behind rest
  unfolding repeated
  body_said zero number es s t behind ts lt h k = absurd (omega arith)
  body_said (suc turns) number [] s t behind ts lt h (l, rest, i, k) = (rest, rw (i, end_said l number s rest) (ap (λ (u : S). Ok (u, rest)) h), k)
  body_said (suc turns) number (Field f v ∷ es) s t behind ts lt (field, next, g, j, h) (l, a, r1, i1, (b, r2, i2, (c, r3, i3, (d, r4, i4, (e, r5, i5, k))))) =
      let others = body_said turns number es next t behind r5 (omega arith) h k in
      let one : entry_at rules last number s ts ≡ Ok (true, next, r5) = rw (i1, i2, i3, i4, i5) (field_entry l number s next _ r5 (setting_said a b c d e number s f v field next r5 g j)) in
      (others.0, rw one others.1, others.2)
  body_said (suc turns) number (Info f v ∷ es) s t behind ts lt h (l, a, r1, i1, (b, r2, i2, (c, r3, i3, (d, r4, i4, (e, r5, i5, k))))) =
      let others = body_said turns number es s t behind r5 (omega arith) h k in
      let one : entry_at rules last number s ts ≡ Ok (true, s, r5) = rw (i1, i2, i3, i4, i5) (info_entry l number s s _ r5 (info_said a b c d e s (escaped_of f) (escaped_of v) r5)) in
      (others.0, rw one others.1, others.2)
  body_said (suc turns) number (Second name ∷ es) s t behind ts lt (next, j, h) (l, a, r1, i1, (b, r2, i2, (e, r3, i3, k))) =
      let others = body_said turns number es next t behind r3 (omega arith) h k in
      let one : entry_at rules last number s ts ≡ Ok (true, next, r3) = rw (i1, i2, i3) (alias_entry l number s next _ r3 (alias_in_said a b e number s name next r3 j)) in
      (others.0, rw one others.1, others.2)

  -- A record up to its braces.
  record_said : (a b c d e : ℕ) (turns begun : ℕ) (s added : S) (type name : List ℕ) (number : ℕ) (rest : List Lexeme) → Opens rules type name number s added
      → record_at rules turns last begun s (lexeme a (Sign 40) [] ∷ lexeme b Quoted (escaped_of type) ∷ lexeme c (Sign 44) [] ∷ lexeme d Quoted (escaped_of name) ∷ lexeme e (Sign 41) [] ∷ rest) ≡ braces_at rules turns last number added rest
  unfolding record_at expect next_at value_at type_at name_at
  record_said a b c d e turns begun s added type name number rest (kind, i, j) = rw (again false type, i, again false name, j) refl

  braces_said : (f : ℕ) (turns number : ℕ) (s : S) (rest : List Lexeme) → braces_at rules turns last number s (lexeme f (Sign 123) [] ∷ rest) ≡ body_at rules turns last number s rest
  unfolding braces_at
  braces_said f turns number s rest = refl

  -- No brace follows a record without braces.
  no_braces : (turns number : ℕ) (s : S) (xs : List Statement) (ts : List Lexeme) → Says (pieces_of xs) ts → braces_at rules turns last number s ts ≡ Ok (s, ts)
  unfolding braces_at
  no_braces turns number s [] ts k = rw k refl
  no_braces turns number s (Full word type name es ∷ xs) ts (l, a, r1, i1, k) = rw i1 refl
  no_braces turns number s (Bare word type name ∷ xs) ts (l, a, r1, i1, k) = rw i1 refl
  no_braces turns number s (Alias name second ∷ xs) ts (l, a, r1, i1, k) = rw i1 refl

  record_statement : (word : Opening) (line turns : ℕ) (s filled : S) (tokens rest : List Lexeme) → record_at rules turns last line s tokens ≡ Ok (filled, rest)
      → statement_at rules turns last s (lexeme line Word (opening_word word) ∷ tokens) ≡ Ok (true, filled, rest)
  unfolding statement_at statement_of begins_record next_at
  record_statement Record line turns s filled tokens rest i = rw i refl
  record_statement Grecord line turns s filled tokens rest i = rw i refl

  alias_statement : (line turns : ℕ) (s next : S) (tokens rest : List Lexeme) → alias_at rules last s tokens ≡ Ok (next, rest)
      → statement_at rules turns last s (lexeme line Word (codes "alias") ∷ tokens) ≡ Ok (true, next, rest)
  unfolding statement_at statement_of begins_record next_at
  alias_statement line turns s next tokens rest i = rw i refl

  alias_said : (a b c d e : ℕ) (s next : S) (name second : List ℕ) (number : ℕ) (rest : List Lexeme) → rules.find name s ≡ Ok number → rules.alias number second s ≡ Ok next
      → alias_at rules last s (lexeme a (Sign 40) [] ∷ lexeme b Quoted (escaped_of name) ∷ lexeme c (Sign 44) [] ∷ lexeme d Quoted (escaped_of second) ∷ lexeme e (Sign 41) [] ∷ rest) ≡ Ok (next, rest)
  unfolding alias_at expect next_at value_at found_at
  alias_said a b c d e s next name second number rest i j = rw (again false name, i, second_said d e number s second next rest j) refl

  all_said : (all turns : ℕ) (xs : List Statement) (s t : S) (ts : List Lexeme) → length (pieces_of xs) < all → length xs < turns → Makes rules xs s t → Says (pieces_of xs) ts
      → repeated (statement_at rules all last) (at last kinds.OpenBody) turns s ts ≡ Ok (t, [])
  unfolding repeated statement_at
  all_said all zero xs s t ts few lt h k = absurd (omega arith)
  all_said all (suc turns) [] s t ts few lt h k = rw k (ap (λ (u : S). let r : Result (S × List Lexeme) DbFault = Ok (u, []) in r) h)
  all_said all (suc turns) (Full word type name es ∷ xs) s t ts few lt (number, added, filled, p, sets, makes) (l, a, r1, i1, (b, r2, i2, (c, r3, i3, (d, r4, i4, (e, r5, i5, (f, r6, i6, k)))))) =
      let count = entries_count es (Mark 125 ∷ pieces_of xs) in
      let body = body_said all number es added filled (pieces_of xs) r6 (omega arith) sets k in
      let one : statement_at rules all last s ts ≡ Ok (true, filled, body.0) =
      rw (i1, i2, i3, i4, i5, i6) (record_statement word l all s filled _ body.0 (record_said a b c d e all l s added type name number (lexeme f (Sign 123) [] ∷ r6) p ∙ braces_said f all number added r6 ∙ body.1)) in
      rw one (all_said all turns xs filled t body.0 (omega arith) (omega arith) makes body.2)
  all_said all (suc turns) (Bare word type name ∷ xs) s t ts few lt (number, added, p, makes) (l, a, r1, i1, (b, r2, i2, (c, r3, i3, (d, r4, i4, (e, r5, i5, k))))) =
      let one : statement_at rules all last s ts ≡ Ok (true, added, r5) =
      rw (i1, i2, i3, i4, i5) (record_statement word l all s added _ r5 (record_said a b c d e all l s added type name number r5 p ∙ no_braces all number added xs r5 k)) in
      rw one (all_said all turns xs added t r5 (omega arith) (omega arith) makes k)
  all_said all (suc turns) (Alias name second ∷ xs) s t ts few lt (number, next, p, q, makes) (l, a, r1, i1, (b, r2, i2, (c, r3, i3, (d, r4, i4, (e, r5, i5, k))))) =
      let one : statement_at rules all last s ts ≡ Ok (true, next, r5) =
      rw (i1, i2, i3, i4, i5) (alias_statement l all s next _ r5 (alias_said a b c d e s next name second number r5 p q)) in
      rw one (all_said all turns xs next t r5 (omega arith) (omega arith) makes k)

  pub tokens_said : (xs : List Statement) (s t : S) (ts : List Lexeme) → length xs ≤ length (pieces_of xs) → Makes rules xs s t → Says (pieces_of xs) ts → filled rules last s ts ≡ Ok t
  tokens_said xs s t ts fewer h k =
      let all = length (pieces_of xs) + length ts + 1 in
      sym (turns_suffice rules last s ts all (omega arith)) ∙ rw (all_said all all xs s t ts (omega arith) (omega arith) h k) refl
