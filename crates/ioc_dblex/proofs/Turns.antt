-- The first token of a text, and those after it.
use Rattle.std.proofs.Common.{◌≡◌, ℕ, zero, suc, ◌+◌, ◌≤◌, ◌<◌, Bool, true, false, cond, ◌||◌, eqb, List, [], ◌∷◌, length, Option, Some, None, refl, sym, ap, ◌∙◌, inl, inr, arith}
use Rattle.std.proofs.lemmas.Bool.{cases_Bool}
use Rattle.ioc_dblex.specs.declared.texts.End.{End}
use Rattle.ioc_dblex.specs.Bytes.{escapes, is_word_byte, behind_word, quoted_of, behind_quoted, behind_gap}
use Rattle.ioc_dblex.specs.Lexing.{Lexeme, Cut, is_fault, is_sign, quoted_at, token_by, token_at}
use Rattle.ioc_dblex.specs.Tokens.{chain, tokens_in, tokens_before, tokens_of, tokens_at}

gap_step : (t : Bool) (b : ℕ) (bs : List ℕ) → length (behind_gap bs) ≤ length bs → length (cond t (behind_gap bs) (b ∷ bs)) ≤ length (b ∷ bs)
gap_step true b bs h = omega arith
gap_step false b bs h = omega arith

gap_le : (bs : List ℕ) → length (behind_gap bs) ≤ length bs
gap_le [] = omega arith
gap_le (b ∷ bs) = gap_step _ b bs (gap_le bs)

word_step : (t : Bool) (b : ℕ) (bs : List ℕ) → length (behind_word bs) ≤ length bs → length (cond t (behind_word bs) (b ∷ bs)) ≤ length (b ∷ bs)
word_step true b bs h = omega arith
word_step false b bs h = omega arith

word_le : (bs : List ℕ) → length (behind_word bs) ≤ length bs
word_le [] = omega arith
word_le (b ∷ bs) = word_step _ b bs (word_le bs)

quoted_step : (t : Bool) (b : ℕ) (bs rest : List ℕ) → length rest ≤ length bs → length (cond t (b ∷ bs) rest) ≤ length (b ∷ bs)
quoted_step true b bs rest h = omega arith
quoted_step false b bs rest h = omega arith

quoted_le : (escaped : Bool) (bs : List ℕ) → length (behind_quoted escaped bs) ≤ length bs
quoted_le escaped [] = omega arith
quoted_le escaped (b ∷ bs) = quoted_step _ b bs _ (quoted_le (escapes escaped b) bs)

close_le : (line : ℕ) (text bs : List ℕ) → length (quoted_at line text bs).rest ≤ length bs
close_le line text [] = omega arith
close_le line text (b ∷ bs) = omega arith

by_shorter : (line b : ℕ) (bs : List ℕ) → length (token_by line b bs).rest ≤ length bs
by_shorter line b bs =
    elim (cases_Bool (is_sign b)) [
      | inl is ↦ rw is (omega arith)
      | inr none ↦ elim (cases_Bool (eqb b 34)) [
        | inl is ↦ rw (none, is) (omega (arith, close_le line (quoted_of false bs) (behind_quoted false bs), quoted_le false bs))
        | inr is ↦ elim (cases_Bool (is_word_byte b)) [
          | inl word ↦ rw (none, is, word) (word_le bs)
          | inr other ↦ rw (none, is, other) (omega arith)
        ]
      ]
    ]

at_shorter : (line : ℕ) (bs : List ℕ) (cut : Cut) → token_at line bs ≡ Some cut → length cut.rest < length bs
unfolding token_at
at_shorter line [] cut e = absurd cc
at_shorter line (b ∷ bs) cut e =
    let k : token_by line b bs ≡ cut = cc in
    rw (← k) (omega (arith, by_shorter line b bs))

pub first_shorter : (line : ℕ) (bs : List ℕ) (cut : Cut) → token_at line (behind_gap bs) ≡ Some cut → length cut.rest < length bs
first_shorter line bs cut e = omega (arith, at_shorter line (behind_gap bs) cut e, gap_le bs)

chain_same : (o : Option Cut) (f g : List ℕ → List Lexeme) (more : List Lexeme) → ((cut : Cut) → o ≡ Some cut → f cut.rest ≡ g cut.rest) → chain o f more ≡ chain o g more
chain_same None f g more h = refl
chain_same (Some cut) f g more h = ap (λ ts. cut.token ∷ cond (is_fault cut.token.kind) [] ts) (h cut refl)

none_in : (n line : ℕ) (more : List Lexeme) → tokens_in n line [] more ≡ more
unfolding token_at
none_in zero line more = refl
none_in (suc n) line more = refl

empty : (bs : List ℕ) → length bs ≤ 0 → bs ≡ []
empty [] h = refl
empty (b ∷ bs) h = absurd (omega arith)

turns_same : (m n line : ℕ) (bs : List ℕ) (more : List Lexeme) → length bs ≤ m → length bs ≤ n → tokens_in m line bs more ≡ tokens_in n line bs more
turns_same zero n line bs more h k = rw (empty bs h) (sym (none_in n line more))
turns_same (suc m) zero line bs more h k = rw (empty bs k) (none_in (suc m) line more)
turns_same (suc m) (suc n) line bs more h k =
    chain_same (token_at line (behind_gap bs)) (λ rest. tokens_in m line rest more) (λ rest. tokens_in n line rest more) more (λ cut e.
    let s = first_shorter line bs cut e in turns_same m n line cut.rest more (omega arith) (omega arith))

pub tokens_nil : (line : ℕ) (more : List Lexeme) → tokens_before line [] more ≡ more
unfolding tokens_before
tokens_nil line more = none_in 0 line more

step : (line : ℕ) (bs : List ℕ) (more : List Lexeme) → tokens_before line bs more ≡ chain (token_at line (behind_gap bs)) (λ rest. tokens_before line rest more) more
unfolding tokens_before token_at
step line [] more = refl
step line (b ∷ bs) more =
    chain_same (token_at line (behind_gap (b ∷ bs))) (λ rest. tokens_in (length bs) line rest more) (λ rest. tokens_in (length rest) line rest more) more (λ cut e.
    let s = first_shorter line (b ∷ bs) cut e in turns_same (length bs) (length cut.rest) line cut.rest more (omega arith) (omega arith))

-- A line with only blanks has no tokens.
pub none_left : (line : ℕ) (bs : List ℕ) (more : List Lexeme) → token_at line (behind_gap bs) ≡ None → tokens_before line bs more ≡ more
none_left line bs more e = step line bs more ∙ ap (λ (o : Option Cut). chain o (λ rest. tokens_before line rest more) more) e

pub one_left : (line : ℕ) (bs : List ℕ) (more : List Lexeme) (cut : Cut) → token_at line (behind_gap bs) ≡ Some cut
    → tokens_before line bs more ≡ cut.token ∷ cond (is_fault cut.token.kind) [] (tokens_before line cut.rest more)
one_left line bs more cut e = step line bs more ∙ ap (λ (o : Option Cut). chain o (λ rest. tokens_before line rest more) more) e

gap_again : (bs : List ℕ) → behind_gap (behind_gap bs) ≡ behind_gap bs
gap_again [] = refl
gap_again (b ∷ bs) = elim (cases_Bool ((eqb b 32) || (eqb b 9))) [ inl is ↦ rw is (gap_again bs) | inr is ↦ rw is (rw is refl) ]

pub solid : (bs left : List ℕ) → left ≡ behind_gap bs → behind_gap left ≡ left
solid bs left e = ap behind_gap e ∙ gap_again bs ∙ sym e

-- Blanks at the front don't matter.
pub without_gap : (line : ℕ) (bs left : List ℕ) (more : List Lexeme) → left ≡ behind_gap bs → tokens_before line left more ≡ tokens_before line bs more
without_gap line bs left more e =
    step line left more ∙ ap (λ (x : List ℕ). chain (token_at line x) (λ rest. tokens_before line rest more) more) (solid bs left e ∙ e) ∙ sym (step line bs more)

none : (bs : List ℕ) → length bs ≡ 0 → bs ≡ []
none [] h = refl
none (b ∷ bs) h = absurd (omega arith)

-- An empty rest of a line is followed by the tokens of the next line.
pub next_line : (line : ℕ) (bs text left : List ℕ) (texts : List (List ℕ)) (end : End) → length bs ≡ 0 → left ≡ behind_gap text
    → tokens_at (line + 1) left texts end ≡ tokens_at line bs (text ∷ texts) end
next_line line bs text left texts end h e =
    without_gap (line + 1) text left (tokens_of end (line + 1 + 1) texts) e ∙ sym (tokens_nil line (tokens_of end (line + 1) (text ∷ texts))) ∙ ap (λ (x : List ℕ). tokens_before line x (tokens_of end (line + 1) (text ∷ texts))) (sym (none bs h))
