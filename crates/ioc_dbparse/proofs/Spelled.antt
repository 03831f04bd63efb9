-- The tokens of pieces with blanks.
use Rattle.std.proofs.Common.{◌≡◌, ℕ, ◌+◌, Bool, true, false, cond, ◌||◌, eqb, List, [], ◌∷◌, ◌++◌, Some, refl, ap, ◌∙◌, inl, inr}
use Rattle.std.proofs.lemmas.Bool.{cases_Bool, eqb-true}
use Rattle.ioc_dblex.specs.declared.token.TokenKind.{TokenKind}
use Rattle.ioc_dblex.specs.declared.token.TokenKind.TheVariants.{Sign, Word, Quoted}
use Rattle.ioc_dblex.specs.Bytes.{is_word_byte, word_of, behind_word, closes, escapes, quoted_of, behind_quoted, behind_gap}
use Rattle.ioc_dblex.specs.Lexing.{Lexeme, Cut, is_sign, is_fault, token_at}
use Rattle.ioc_dblex.specs.Tokens.{tokens_before}
use Rattle.ioc_dbparse.specs.Spelling.{Each, is_space, escaped_of, Piece, Call, Mark, Text, with_gaps}
use Rattle.ioc_dblex.proofs.Turns.{one_left, none_left}
use Rattle.ioc_dbparse.proofs.Lexed.{Fine, other_byte}

-- A token on a line.
abbrev pub lexeme : ℕ → TokenKind → List ℕ → Lexeme
lexeme line kind text = record { line = line; kind = kind; text = text }

-- The tokens of pieces on a line.
abbrev pub lexemes : ℕ → List Piece → List Lexeme
lexemes line [] = []
lexemes line (Call word ∷ ps) = lexeme line Word word ∷ lexeme line (Sign 40) [] ∷ lexemes line ps
lexemes line (Mark b ∷ ps) = lexeme line (Sign b) [] ∷ lexemes line ps
lexemes line (Text text ∷ ps) = lexeme line Quoted (escaped_of text) ∷ lexemes line ps

-- Lemmas about blanks.

gap_run : (gap rest : List ℕ) → Each is_space gap → behind_gap (gap ++ rest) ≡ behind_gap rest
gap_run [] rest h = refl
gap_run (b ∷ bs) rest h = rw h.0 (gap_run bs rest h.1)

gap_all : (gap : List ℕ) → Each is_space gap → behind_gap gap ≡ []
gap_all [] h = refl
gap_all (b ∷ bs) h = rw h.0 (gap_all bs h.1)

solid_at : (b : ℕ) (bs : List ℕ) → is_space b ≡ false → behind_gap (b ∷ bs) ≡ b ∷ bs
solid_at b bs h = rw h refl

-- A class of bytes that has no blanks.
not_space : (p : ℕ → Bool) (b : ℕ) → p b ≡ true → p 32 ≡ false → p 9 ≡ false → is_space b ≡ false
not_space p b h blank tab = rw (other_byte p b 32 h blank, other_byte p b 9 h tab) refl

module _ (line : ℕ) (gap : List ℕ) (spaces : Each is_space gap) (more : List Lexeme) where
  -- The first token after a gap.
  first_token : (b : ℕ) (bs : List ℕ) (cut : Cut) → is_space b ≡ false → token_at line (b ∷ bs) ≡ Some cut → tokens_before line (gap ++ (b ∷ bs)) more ≡ cut.token ∷ cond (is_fault cut.token.kind) [] (tokens_before line cut.rest more)
  first_token b bs cut h e = one_left line (gap ++ (b ∷ bs)) more cut (ap (token_at line) (gap_run gap (b ∷ bs) spaces ∙ solid_at b bs h) ∙ e)

  no_token : tokens_before line gap more ≡ more
  unfolding token_at
  no_token = none_left line gap more (ap (token_at line) (gap_all gap spaces))

-- Lemmas about one token.

sign_at : (line b : ℕ) (bs : List ℕ) → is_sign b ≡ true → token_at line (b ∷ bs) ≡ Some (record { token = lexeme line (Sign b) []; rest = bs })
unfolding token_at
sign_at line b bs h = rw h refl

sign_solid : (b : ℕ) → is_sign b ≡ true → is_space b ≡ false
unfolding is_sign
sign_solid b h = not_space is_sign b h refl refl

quoted_step : (t u : Bool) (b : ℕ) (text rest : List ℕ) → eqb b 34 ≡ t → eqb b 92 ≡ u → quoted_of false (text ++ rest) ≡ text
    → quoted_of false (cond (t || u) (92 ∷ b ∷ text) (b ∷ text) ++ rest) ≡ cond (t || u) (92 ∷ b ∷ text) (b ∷ text)
unfolding closes escapes
quoted_step true u b text rest e f k = ap (λ (l : List ℕ). 92 ∷ b ∷ l) k
quoted_step false true b text rest e f k = ap (λ (l : List ℕ). 92 ∷ b ∷ l) k
quoted_step false false b text rest e f k = rw (e, f) (ap (λ (l : List ℕ). b ∷ l) k)

behind_step : (t u : Bool) (b : ℕ) (text rest after : List ℕ) → eqb b 34 ≡ t → eqb b 92 ≡ u → behind_quoted false (text ++ rest) ≡ after
    → behind_quoted false (cond (t || u) (92 ∷ b ∷ text) (b ∷ text) ++ rest) ≡ after
unfolding closes escapes
behind_step true u b text rest after e f k = k
behind_step false true b text rest after e f k = k
behind_step false false b text rest after e f k = rw (e, f) k

quoted_end : (rest : List ℕ) → quoted_of false (34 ∷ rest) ≡ []
unfolding closes
quoted_end rest = refl

behind_end : (rest : List ℕ) → behind_quoted false (34 ∷ rest) ≡ 34 ∷ rest
unfolding closes
behind_end rest = refl

quoted_text : (text rest : List ℕ) → quoted_of false (escaped_of text ++ (34 ∷ rest)) ≡ escaped_of text
quoted_text [] rest = quoted_end rest
quoted_text (b ∷ bs) rest = quoted_step (eqb b 34) (eqb b 92) b (escaped_of bs) (34 ∷ rest) refl refl (quoted_text bs rest)

behind_text : (text rest : List ℕ) → behind_quoted false (escaped_of text ++ (34 ∷ rest)) ≡ 34 ∷ rest
behind_text [] rest = behind_end rest
behind_text (b ∷ bs) rest = behind_step (eqb b 34) (eqb b 92) b (escaped_of bs) (34 ∷ rest) (34 ∷ rest) refl refl (behind_text bs rest)

text_at : (line : ℕ) (text rest : List ℕ) → token_at line (34 ∷ escaped_of text ++ (34 ∷ rest)) ≡ Some (record { token = lexeme line Quoted (escaped_of text); rest = rest })
unfolding token_at is_sign
text_at line text rest = rw (quoted_text text rest, behind_text text rest) refl

-- Lemmas about a word that is followed by blanks and a bracket.

word_no_sign : (b : ℕ) → is_word_byte b ≡ true → is_sign b ≡ false
unfolding is_word_byte is_sign
word_no_sign b h =
    rw (other_byte is_word_byte b 40 h refl, other_byte is_word_byte b 41 h refl, other_byte is_word_byte b 123 h refl, other_byte is_word_byte b 125 h refl, other_byte is_word_byte b 44 h refl, other_byte is_word_byte b 42 h refl) refl

word_no_quote : (b : ℕ) → is_word_byte b ≡ true → eqb b 34 ≡ false
unfolding is_word_byte
word_no_quote b h = other_byte is_word_byte b 34 h refl

word_solid : (b : ℕ) → is_word_byte b ≡ true → is_space b ≡ false
unfolding is_word_byte
word_solid b h = not_space is_word_byte b h refl refl

space_no_word : (b : ℕ) → is_space b ≡ true → is_word_byte b ≡ false
unfolding is_word_byte
space_no_word b h =
    elim (cases_Bool (eqb b 32)) [
      | inl is ↦ rw (eqb-true b 32 is) refl
      | inr other ↦ rw (eqb-true b 9 (rw other at h)) refl
    ]

-- No word continues in blanks and a bracket.
no_word : (gap rest : List ℕ) → Each is_space gap → word_of (gap ++ (40 ∷ rest)) ≡ []
unfolding is_word_byte
no_word [] rest h = refl
no_word (b ∷ bs) rest h = rw (space_no_word b h.0) refl

all_behind : (gap rest : List ℕ) → Each is_space gap → behind_word (gap ++ (40 ∷ rest)) ≡ gap ++ (40 ∷ rest)
unfolding is_word_byte
all_behind [] rest h = refl
all_behind (b ∷ bs) rest h = rw (space_no_word b h.0) refl

append_nil : (bs : List ℕ) → bs ++ [] ≡ bs
append_nil [] = refl
append_nil (b ∷ bs) = ap (λ (l : List ℕ). b ∷ l) (append_nil bs)

word_run : (word rest : List ℕ) → Each is_word_byte word → word_of rest ≡ [] → word_of (word ++ rest) ≡ word
word_run [] rest h k = k
word_run (b ∷ bs) rest h k = rw h.0 (ap (λ (l : List ℕ). b ∷ l) (word_run bs rest h.1 k))

behind_run : (word rest : List ℕ) → Each is_word_byte word → behind_word rest ≡ rest → behind_word (word ++ rest) ≡ rest
behind_run [] rest h k = k
behind_run (b ∷ bs) rest h k = rw h.0 (behind_run bs rest h.1 k)

word_at : (line b : ℕ) (bs rest : List ℕ) → Each is_word_byte (b ∷ bs) → word_of rest ≡ [] → behind_word rest ≡ rest
    → token_at line (b ∷ bs ++ rest) ≡ Some (record { token = lexeme line Word (b ∷ bs); rest = rest })
unfolding token_at
word_at line b bs rest h k m =
    rw (word_no_sign b h.0, word_no_quote b h.0, h.0, word_run bs rest h.1 k, behind_run bs rest h.1 m) refl

-- Lemmas about all tokens.

module _ (gaps : ℕ → List ℕ) (spaces : (i : ℕ) → Each is_space (gaps i)) (line : ℕ) (more : List Lexeme) where
  call_tokens : (i : ℕ) (word rest : List ℕ) → (word ≡ [] → ⊥) → Each is_word_byte word
      → tokens_before line (gaps i ++ (word ++ (gaps (i + 1) ++ (40 ∷ rest)))) more ≡ lexeme line Word word ∷ lexeme line (Sign 40) [] ∷ tokens_before line rest more
  unfolding is_sign
  call_tokens i [] rest some h = absurd (some refl)
  call_tokens i (b ∷ bs) rest some h =
      let after = gaps (i + 1) ++ (40 ∷ rest) in
      first_token line (gaps i) (spaces i) more b (bs ++ after) (record { token = lexeme line Word (b ∷ bs); rest = after }) (word_solid b h.0) (word_at line b bs after h (no_word (gaps (i + 1)) rest (spaces (i + 1))) (all_behind (gaps (i + 1)) rest (spaces (i + 1))))
      ∙ ap (λ (ts : List Lexeme). lexeme line Word (b ∷ bs) ∷ ts) (first_token line (gaps (i + 1)) (spaces (i + 1)) more 40 rest (record { token = lexeme line (Sign 40) []; rest = rest }) refl (sign_at line 40 rest refl))

  pub pieces_tokens : (i : ℕ) (ps : List Piece) → Fine ps → tokens_before line (with_gaps gaps i ps []) more ≡ lexemes line ps ++ more
  pieces_tokens i [] h = ap (λ (l : List ℕ). tokens_before line l more) (append_nil (gaps i)) ∙ no_token line (gaps i) (spaces i) more
  pieces_tokens i (Call word ∷ ps) h =
      call_tokens i word _ h.0 h.1 ∙ ap (λ (ts : List Lexeme). lexeme line Word word ∷ lexeme line (Sign 40) [] ∷ ts) (pieces_tokens (i + 2) ps h.2)
  pieces_tokens i (Mark b ∷ ps) h =
      first_token line (gaps i) (spaces i) more b _ (record { token = lexeme line (Sign b) []; rest = with_gaps gaps (i + 1) ps [] }) (sign_solid b h.0) (sign_at line b _ h.0)
      ∙ ap (λ (ts : List Lexeme). lexeme line (Sign b) [] ∷ ts) (pieces_tokens (i + 1) ps h.1)
  pieces_tokens i (Text text ∷ ps) h =
      first_token line (gaps i) (spaces i) more 34 _ (record { token = lexeme line Quoted (escaped_of text); rest = with_gaps gaps (i + 1) ps [] }) refl (text_at line text _)
      ∙ ap (λ (ts : List Lexeme). lexeme line Quoted (escaped_of text) ∷ ts) (pieces_tokens (i + 1) ps h.1)
