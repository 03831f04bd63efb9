-- The line of a saved value is read.
use Rattle.std.proofs.Common.{◌≡◌, ℕ, zero, suc, ◌≤◌, ◌-◌, Bool, true, false, eqb, not, ◌&&◌, ◌||◌, List, [], ◌∷◌, ◌++◌, length, Some, refl, ap, ◌∙◌, append_assoc, arith}
use Rattle.std.specs.Prelude.{codes}
use Rattle.std.specs.List.{list_all, onto_first}
use Rattle.std.proofs.lemmas.Bool.{and_parts, not-true, or_parts}
use Rattle.ioc_dblex.specs.Bytes.{is_word_byte, word_of, behind_word}
use Rattle.ioc_dblex.specs.Lexing.{Lexeme, is_sign, token_at}
use Rattle.ioc_dblex.specs.Lines.{lines_of, without_end, begins_comment, quoting_after, uncommented, line_text}
use Rattle.ioc_dblex.specs.Macros.{Defined, opens_macro, onto_text, replaced_behind, replaced}
use Rattle.ioc_dblex.specs.Tokens.{tokens_in, tokens_before}
use Rattle.ioc_dblex.specs.declared.lines.Quoting.TheVariants.{Outside}
use Rattle.ioc_saved.specs.declared.value.SavedValue.{SavedValue}
use Rattle.ioc_saved.specs.Words.{lacks}
use Rattle.ioc_saved.specs.Blocks.{quoted, setting, block_of, is_name_byte, is_field_byte, has_macro, some_of, has_block}
use Rattle.ioc_saved.specs.BlockLaws.{sign, word, said, block_tokens, IsRead}
use Rattle.ioc_saved.proofs.Cuts.{both, and_true, negated, lacks_append}
use Rattle.ioc_saved.proofs.Quoting.{Q, other, inside, quoted_again, behind_again, value_again, name_again, quoted_feed, quoted_return, macro_quoted, macro_behind, macro_none}

-- ---- Lines

lines_again : (w rest : List ℕ) → lacks 10 w ≡ true → lines_of ((w ++ 10 ∷ []) ++ rest) ≡ (w ++ 10 ∷ []) ∷ lines_of rest
lines_again [] rest h = refl
lines_again (b ∷ bs) rest h =
    let p = both (not (eqb b 10)) (lacks 10 bs) h in
    rw (negated (eqb b 10) p.0) (ap (onto_first b) (lines_again bs rest p.1))

end_again : (w : List ℕ) → lacks 10 w ≡ true → lacks 13 w ≡ true → without_end (w ++ 10 ∷ []) ≡ w
end_again [] h k = refl
end_again (b ∷ bs) h k =
    let p = both (not (eqb b 10)) (lacks 10 bs) h in
    let q = both (not (eqb b 13)) (lacks 13 bs) k in
    rw (negated (eqb b 10) p.0, negated (eqb b 13) q.0) (ap (λ (l : List ℕ). b ∷ l) (end_again bs p.1 q.1))

outside : (front rest : List ℕ) → lacks 34 front ≡ true → lacks 35 front ≡ true → uncommented Outside (front ++ rest) ≡ front ++ uncommented Outside rest
unfolding begins_comment quoting_after
outside [] rest h k = refl
outside (b ∷ bs) rest h k =
    let p = both (not (eqb b 34)) (lacks 34 bs) h in
    let q = both (not (eqb b 35)) (lacks 35 bs) k in
    rw (negated (eqb b 34) p.0, negated (eqb b 35) q.0) (ap (λ (l : List ℕ). b ∷ l) (outside bs rest p.1 q.1))

replaced_again : (ds : List Defined) (text : List ℕ) → has_macro text ≡ false → replaced_behind 0 ds text ≡ Some text
replaced_again ds [] h = refl
replaced_again ds (b ∷ bs) h =
    let p = or_parts (eqb b 36 && opens_macro bs) (has_macro bs) h in
    rw p.0 (ap (onto_text (b ∷ [])) (replaced_again ds bs p.1))

-- ---- Tokens

sign_step : (j n c : ℕ) (bs : List ℕ) (more : List Lexeme) → ((eqb c 32 || eqb c 9) ≡ false) → is_sign c ≡ true
    → tokens_in (suc j) n (c ∷ bs) more ≡ sign n c ∷ tokens_in j n bs more
unfolding token_at
sign_step j n c bs more gap h = rw (gap, h) refl

quote_step : (j n : ℕ) (text rest : List ℕ) (more : List Lexeme) → tokens_in (suc j) n (34 ∷ Q text ++ 34 ∷ rest) more ≡ said n text ∷ tokens_in j n rest more
unfolding token_at is_sign
quote_step j n text rest more = rw (quoted_again text rest, behind_again text rest) refl

word_front : (w : List ℕ) (c : ℕ) (rest : List ℕ) → list_all is_word_byte w ≡ true → is_word_byte c ≡ false → word_of (w ++ c ∷ rest) ≡ w
word_front [] c rest h k = rw k refl
word_front (b ∷ bs) c rest h k =
    let p = both (is_word_byte b) (list_all is_word_byte bs) h in rw p.0 (ap (λ (l : List ℕ). b ∷ l) (word_front bs c rest p.1 k))

word_behind : (w : List ℕ) (c : ℕ) (rest : List ℕ) → list_all is_word_byte w ≡ true → is_word_byte c ≡ false → behind_word (w ++ c ∷ rest) ≡ c ∷ rest
word_behind [] c rest h k = rw k refl
word_behind (b ∷ bs) c rest h k =
    let p = both (is_word_byte b) (list_all is_word_byte bs) h in rw p.0 (word_behind bs c rest p.1 k)

no_sign : (b : ℕ) → is_word_byte b ≡ true → is_sign b ≡ false
unfolding is_word_byte is_sign
no_sign b h =
    rw (
      other is_word_byte b 40 h refl,
      other is_word_byte b 41 h refl,
      other is_word_byte b 123 h refl,
      other is_word_byte b 125 h refl,
      other is_word_byte b 44 h refl,
      other is_word_byte b 42 h refl,
    ) refl

no_gap : (b : ℕ) → is_word_byte b ≡ true → (eqb b 32 || eqb b 9) ≡ false
unfolding is_word_byte
no_gap b h = rw (other is_word_byte b 32 h refl, other is_word_byte b 9 h refl) refl

no_quote : (b : ℕ) → is_word_byte b ≡ true → eqb b 34 ≡ false
unfolding is_word_byte
no_quote b h = other is_word_byte b 34 h refl

word_step : (j n : ℕ) (w : List ℕ) (c : ℕ) (rest : List ℕ) (more : List Lexeme) → some_of is_word_byte w ≡ true → is_word_byte c ≡ false
    → tokens_in (suc j) n (w ++ c ∷ rest) more ≡ word n w ∷ tokens_in j n (c ∷ rest) more
unfolding token_at
word_step j n [] c rest more h k = absurd cc
word_step j n (b ∷ bs) c rest more h k =
    let p = both (is_word_byte b) (list_all is_word_byte bs) h in
    rw (no_gap b p.0, no_sign b p.0, no_quote b p.0, p.0, word_front bs c rest p.1 k, word_behind bs c rest p.1 k) refl

nothing_left : (j n : ℕ) (more : List Lexeme) → tokens_in j n [] more ≡ more
unfolding token_at
nothing_left zero n more = refl
nothing_left (suc j) n more = refl

-- ---- The parts of a block

words_lack : (c : ℕ) → is_word_byte c ≡ false → (w : List ℕ) → list_all is_word_byte w ≡ true → lacks c w ≡ true
words_lack c k [] h = refl
words_lack c k (b ∷ bs) h =
    let p = both (is_word_byte b) (list_all is_word_byte bs) h in rw (other is_word_byte b c p.0 k) (words_lack c k bs p.1)

names_lack : (name : List ℕ) → list_all is_name_byte name ≡ true → lacks 36 name ≡ true
names_lack [] h = refl
names_lack (b ∷ bs) h =
    let p = both (is_name_byte b) (list_all is_name_byte bs) h in rw (other is_name_byte b 36 p.0 refl) (names_lack bs p.1)

all_of : (test : ℕ → Bool) (w : List ℕ) → some_of test w ≡ true → list_all test w ≡ true
all_of test [] h = absurd cc
all_of test (b ∷ bs) h = h

-- A capital letter or a digit is a byte of a bareword.
field_byte : (b : ℕ) → is_field_byte b ≡ true → is_word_byte b ≡ true
unfolding is_word_byte
field_byte b h = grind (arith)

field_bytes : (w : List ℕ) → list_all is_field_byte w ≡ true → list_all is_word_byte w ≡ true
field_bytes [] h = refl
field_bytes (b ∷ bs) h =
    let p = both (is_field_byte b) (list_all is_field_byte bs) h in and_true (is_word_byte b) (list_all is_word_byte bs) (field_byte b p.0) (field_bytes bs p.1)

field_word : (w : List ℕ) → some_of is_field_byte w ≡ true → some_of is_word_byte w ≡ true
field_word [] h = absurd cc
field_word (b ∷ bs) h = field_bytes (b ∷ bs) h

-- What stands behind the name and behind the value.
abbrev closing : List ℕ
closing = 41 ∷ 125 ∷ []

abbrev behind_field : SavedValue → List ℕ
behind_field v = 44 ∷ 34 ∷ (Q v.value ++ 34 ∷ closing)

abbrev behind_name : SavedValue → List ℕ
behind_name v = 41 ∷ 123 ∷ (codes "field" ++ 40 ∷ (v.field ++ behind_field v))

abbrev behind_type : SavedValue → List ℕ
behind_type v = 44 ∷ 34 ∷ (Q v.record_name ++ 34 ∷ behind_name v)

-- A block without its line feed.
abbrev body : List ℕ → SavedValue → List ℕ
body record_type v = codes "record" ++ 40 ∷ (record_type ++ behind_type v)

regrouped : (a b c d e f g h i : List ℕ) → a ++ b ++ c ++ (d ++ (e ++ f ++ g ++ h ++ i)) ≡ (a ++ (b ++ (c ++ (d ++ (e ++ (f ++ (g ++ h))))))) ++ i
regrouped a b c d e f g h i = simp append_assoc

flat : (record_type : List ℕ) (v : SavedValue) → block_of record_type v ≡ body record_type v ++ 10 ∷ []
unfolding block_of setting quoted
flat record_type v =
    let value : List ℕ = 44 ∷ 34 ∷ Q v.value ++ 34 ∷ [] in
    regrouped (codes "record(") record_type (44 ∷ 34 ∷ Q v.record_name ++ 34 ∷ []) (41 ∷ []) (codes "{field(") v.field value (codes ")}") (10 ∷ [])
    ∙ ap (λ (l : List ℕ). (codes "record(" ++ (record_type ++ 44 ∷ 34 ∷ l)) ++ 10 ∷ []) (append_assoc (Q v.record_name) (34 ∷ []) (41 ∷ (codes "{field(" ++ (v.field ++ (value ++ codes ")}")))))
    ∙ ap (λ (l : List ℕ). (codes "record(" ++ (record_type ++ 44 ∷ 34 ∷ (Q v.record_name ++ 34 ∷ 41 ∷ (codes "{field(" ++ (v.field ++ 44 ∷ 34 ∷ l))))) ++ 10 ∷ []) (append_assoc (Q v.value) (34 ∷ []) (codes ")}"))

record IsSaid (record_type : List ℕ) (v : SavedValue) : Type 0 where
  typed : some_of is_word_byte record_type ≡ true
  type_bytes : list_all is_word_byte record_type ≡ true
  name_bytes : list_all is_name_byte v.record_name ≡ true
  field : some_of is_word_byte v.field ≡ true
  field_bytes : list_all is_word_byte v.field ≡ true
  macro : has_macro v.value ≡ false

said_so : (record_type : List ℕ) (v : SavedValue) → some_of is_word_byte record_type ≡ true → has_block v ≡ true → IsSaid record_type v
unfolding has_block
said_so record_type v typed h =
    let a = and_parts (some_of is_name_byte v.record_name) _ h in
    let b = and_parts (some_of is_field_byte v.field) _ a.1 in
    let field = field_word v.field b.0 in
    record {
      typed = typed;
      type_bytes = all_of is_word_byte record_type typed;
      name_bytes = all_of is_name_byte v.record_name a.0;
      field = field;
      field_bytes = all_of is_word_byte v.field field;
      macro = not-true (has_macro v.value) b.1;
    }

module _ (record_type : List ℕ) (v : SavedValue) (h : IsSaid record_type v) where
  feedless : lacks 10 (body record_type v) ≡ true
  unfolding is_word_byte
  feedless =
      lacks_append 10 (codes "record(") (record_type ++ behind_type v) refl
      (lacks_append 10 record_type (behind_type v) (words_lack 10 refl record_type h.type_bytes)
      (lacks_append 10 (44 ∷ 34 ∷ Q v.record_name) (34 ∷ behind_name v) (quoted_feed v.record_name)
      (lacks_append 10 v.field (behind_field v) (words_lack 10 refl v.field h.field_bytes)
      (lacks_append 10 (44 ∷ 34 ∷ Q v.value) (34 ∷ closing) (quoted_feed v.value) refl))))

  returnless : lacks 13 (body record_type v) ≡ true
  unfolding is_word_byte
  returnless =
      lacks_append 13 (codes "record(") (record_type ++ behind_type v) refl
      (lacks_append 13 record_type (behind_type v) (words_lack 13 refl record_type h.type_bytes)
      (lacks_append 13 (44 ∷ 34 ∷ Q v.record_name) (34 ∷ behind_name v) (quoted_return v.record_name)
      (lacks_append 13 v.field (behind_field v) (words_lack 13 refl v.field h.field_bytes)
      (lacks_append 13 (44 ∷ 34 ∷ Q v.value) (34 ∷ closing) (quoted_return v.value) refl))))

  no_comment : uncommented Outside (body record_type v) ≡ body record_type v
  unfolding begins_comment quoting_after is_word_byte
  no_comment =
      outside (codes "record(") (record_type ++ behind_type v) refl refl
      ∙ ap (λ (l : List ℕ). codes "record(" ++ l) (outside record_type (behind_type v) (words_lack 34 refl record_type h.type_bytes) (words_lack 35 refl record_type h.type_bytes)
      ∙ ap (λ (l : List ℕ). record_type ++ 44 ∷ 34 ∷ l) (inside v.record_name (behind_name v)
      ∙ ap (λ (l : List ℕ). Q v.record_name ++ 34 ∷ 41 ∷ 123 ∷ (codes "field(" ++ l)) (outside v.field (behind_field v) (words_lack 34 refl v.field h.field_bytes) (words_lack 35 refl v.field h.field_bytes)
      ∙ ap (λ (l : List ℕ). v.field ++ 44 ∷ 34 ∷ l) (inside v.value closing))))

  no_macros : has_macro (body record_type v) ≡ false
  unfolding is_word_byte
  no_macros =
      macro_behind (codes "record(") (record_type ++ behind_type v) refl
      ∙ (macro_behind record_type (behind_type v) (words_lack 36 refl record_type h.type_bytes)
      ∙ macro_quoted v.record_name (behind_name v) (macro_none v.record_name (names_lack v.record_name h.name_bytes))
      (macro_behind v.field (behind_field v) (words_lack 36 refl v.field h.field_bytes) ∙ macro_quoted v.value closing h.macro refl))

  line_again : (macros : List Defined) → line_text macros (block_of record_type v) ≡ Some (body record_type v)
  unfolding line_text
  line_again macros =
      ap (λ (l : List ℕ). replaced macros (uncommented Outside (without_end l))) (flat record_type v)
      ∙ (ap (λ (l : List ℕ). replaced macros (uncommented Outside l)) (end_again (body record_type v) feedless returnless)
      ∙ (ap (λ (l : List ℕ). replaced macros l) no_comment ∙ replaced_again macros (body record_type v) no_macros))

-- `WORD(NAME,"TEXT")`
opened : (j n : ℕ) (w name text rest : List ℕ) (more : List Lexeme) → some_of is_word_byte w ≡ true → some_of is_word_byte name ≡ true
    → tokens_in (suc (suc (suc (suc (suc (suc j)))))) n (w ++ 40 ∷ (name ++ 44 ∷ 34 ∷ (Q text ++ 34 ∷ 41 ∷ rest))) more
    ≡ word n w ∷ sign n 40 ∷ word n name ∷ sign n 44 ∷ said n text ∷ sign n 41 ∷ tokens_in j n rest more
unfolding is_word_byte is_sign
opened j n w name text rest more h k =
    word_step (suc (suc (suc (suc (suc j))))) n w 40 (name ++ 44 ∷ 34 ∷ (Q text ++ 34 ∷ 41 ∷ rest)) more h refl
    ∙ ap (λ (l : List Lexeme). word n w ∷ l) (sign_step (suc (suc (suc (suc j)))) n 40 (name ++ 44 ∷ 34 ∷ (Q text ++ 34 ∷ 41 ∷ rest)) more refl refl
    ∙ ap (λ (l : List Lexeme). sign n 40 ∷ l) (word_step (suc (suc (suc j))) n name 44 (34 ∷ (Q text ++ 34 ∷ 41 ∷ rest)) more k refl
    ∙ ap (λ (l : List Lexeme). word n name ∷ l) (sign_step (suc (suc j)) n 44 (34 ∷ (Q text ++ 34 ∷ 41 ∷ rest)) more refl refl
    ∙ ap (λ (l : List Lexeme). sign n 44 ∷ l) (quote_step (suc j) n text (41 ∷ rest) more
    ∙ ap (λ (l : List Lexeme). said n text ∷ l) (sign_step j n 41 rest more refl refl)))))

closed : (j n : ℕ) (more : List Lexeme) → tokens_in (suc j) n (125 ∷ []) more ≡ sign n 125 ∷ more
unfolding is_sign
closed j n more = sign_step j n 125 [] more refl refl ∙ ap (λ (l : List Lexeme). sign n 125 ∷ l) (nothing_left j n more)

all_tokens : (j n : ℕ) (record_type : List ℕ) (v : SavedValue) (more : List Lexeme) → IsSaid record_type v
    → tokens_in (suc (suc (suc (suc (suc (suc (suc (suc (suc (suc (suc (suc (suc (suc j)))))))))))))) n (body record_type v) more ≡ block_tokens n record_type v ++ more
unfolding is_word_byte is_sign
all_tokens j n record_type v more h =
    let fields : List ℕ = codes "field" ++ 40 ∷ (v.field ++ behind_field v) in
    opened (suc (suc (suc (suc (suc (suc (suc (suc j)))))))) n (codes "record") record_type v.record_name (123 ∷ fields) more refl h.typed
    ∙ ap (λ (l : List Lexeme). word n (codes "record") ∷ sign n 40 ∷ word n record_type ∷ sign n 44 ∷ said n v.record_name ∷ sign n 41 ∷ l)
    (sign_step (suc (suc (suc (suc (suc (suc (suc j))))))) n 123 fields more refl refl
    ∙ ap (λ (l : List Lexeme). sign n 123 ∷ l) (opened (suc j) n (codes "field") v.field v.value (125 ∷ []) more refl h.field
    ∙ ap (λ (l : List Lexeme). word n (codes "field") ∷ sign n 40 ∷ word n v.field ∷ sign n 44 ∷ said n v.value ∷ sign n 41 ∷ l) (closed j n more)))

back : (v w : List ℕ) → length w ≤ length (v ++ w)
back [] w = omega arith
back (b ∷ bs) w = let k = back bs w in omega (arith, k)

enough : (record_type : List ℕ) (v : SavedValue) → 14 ≤ length (body record_type v)
enough record_type v = let a = back record_type (behind_type v) in let b = back (Q v.record_name) (34 ∷ behind_name v) in omega (arith, a, b)

turns : (k : ℕ) → 14 ≤ k → k ≡ suc (suc (suc (suc (suc (suc (suc (suc (suc (suc (suc (suc (suc (suc (k - 14))))))))))))))
turns k h = omega (arith, h)

tokens_again : (n : ℕ) (record_type : List ℕ) (v : SavedValue) (more : List Lexeme) → IsSaid record_type v → tokens_before n (body record_type v) more ≡ block_tokens n record_type v ++ more
unfolding tokens_before
tokens_again n record_type v more h =
    let k = length (body record_type v) in
    ap (λ (turn : ℕ). tokens_in turn n (body record_type v) more) (turns k (enough record_type v)) ∙ all_tokens (k - 14) n record_type v more h

pub block_read : (record_type : List ℕ) (v : SavedValue) → some_of is_word_byte record_type ≡ true → has_block v ≡ true → IsRead record_type v
block_read record_type v typed has =
    let h = said_so record_type v typed has in
    record {
      text = body record_type v;
      one_line = λ behind. rw (flat record_type v) (lines_again (body record_type v) behind (feedless record_type v h));
      line = λ macros. line_again record_type v h macros;
      tokens = λ n behind. tokens_again n record_type v behind h;
      record_name = name_again v.record_name h.name_bytes;
      value = value_again v.value;
    }
