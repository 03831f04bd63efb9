-- Texts that begin with the same lines.
use Rattle.std.proofs.Common.{◌≡◌, ℕ, zero, suc, ◌+◌, ◌-◌, Bool, true, false, cond, eqb, nat_lt, List, [], ◌∷◌, ◌++◌, length, Option, Some, None, Err, refl, ap, ◌∙◌, inl, inr}
use Rattle.std.specs.List.{onto_first}
use Rattle.std.proofs.lemmas.Bool.{cases_Bool}
use Rattle.ioc_values.specs.declared.error.BadDbKind.TheVariants as kinds
use Rattle.ioc_values.specs.declared.error.DbFault.{DbFault}
use Rattle.ioc_dblex.specs.declared.texts.End.{End}
use Rattle.ioc_dblex.specs.declared.texts.End.TheVariants.{Whole, BadMacro}
use Rattle.ioc_dblex.specs.Bytes.{behind_gap}
use Rattle.ioc_dblex.specs.Lines.{lines_of, line_text}
use Rattle.ioc_dblex.specs.Macros.{Defined}
use Rattle.ioc_dblex.specs.Lexing.{Lexeme, Cut, is_fault, token_at}
use Rattle.ioc_dblex.specs.Tokens.{chain, tokens_in, tokens_before, tokens_of}
use Rattle.ioc_dblex.specs.Texts.{Expansion, onto_texts, last_text, expansion, most_bytes}
use Rattle.ioc_dbparse.specs.Rules.{Rules}
use Rattle.ioc_dbparse.specs.Statements.{filled}
use Rattle.ioc_dbparse.specs.Loading.{filled_by}
use Rattle.ioc_dbparse.specs.Laws.{ends_line}
use Rattle.ioc_dblex.proofs.LineLemmas.{first_line, behind_line, splits_off}
use Rattle.ioc_dbparse.proofs.Local.{filled_local}

onto_append : (b : ℕ) (ls front : List (List ℕ)) (first : List ℕ) (others : List (List ℕ)) → front ≡ first ∷ others → onto_first b (front ++ ls) ≡ onto_first b front ++ ls
onto_append b ls front first others e = rw e refl

pub lines_append : (a b : List ℕ) → ends_line a ≡ true → lines_of (a ++ b) ≡ lines_of a ++ lines_of b
lines_append [] b h = refl
lines_append (x ∷ []) b h = rw h refl
lines_append (x ∷ y ∷ ys) b h =
    elim (cases_Bool (eqb x 10)) [
      | inl is ↦ rw is (ap (λ (ls : List (List ℕ)). (10 ∷ []) ∷ ls) (lines_append (y ∷ ys) b h))
      | inr is ↦ rw is (ap (onto_first x) (lines_append (y ∷ ys) b h) ∙ onto_append x (lines_of b) (lines_of (y ∷ ys)) (first_line (y ∷ ys)) (lines_of (behind_line (y ∷ ys))) (splits_off y ys))
    ]

-- More lines follow, or the first expansion stopped.
data Extends : Expansion → Expansion → Type 0 where
  extended : (texts others : List (List ℕ)) (end : End) → Extends (record { texts = texts; end = Whole }) (record { texts = texts ++ others; end = end })
  stopped : (e : Expansion) → Extends e e

onto_some : (text : List ℕ) (e f : Expansion) → Extends e f → Extends (onto_texts (Some text) e) (onto_texts (Some text) f)
onto_some text e f (extended texts others end) = extended (text ∷ texts) others end
onto_some text e f (stopped x) = stopped (record { texts = text ∷ x.texts; end = x.end })

onto_extends : (o : Option (List ℕ)) (e f : Expansion) → Extends e f → Extends (onto_texts o e) (onto_texts o f)
onto_extends None e f h = stopped (record { texts = []; end = BadMacro })
onto_extends (Some text) e f h = onto_some text e f h

line_extends : (t : Bool) (room : ℕ) (o : Option (List ℕ)) (e f : Expansion) → Extends e f → Extends (cond t (last_text room o) (onto_texts o e)) (cond t (last_text room o) (onto_texts o f))
line_extends true room o e f h = stopped (last_text room o)
line_extends false room o e f h = onto_extends o e f h

expansion_extends : (macros : List Defined) (room : ℕ) (ls ms : List (List ℕ)) → Extends (expansion macros room ls) (expansion macros room (ls ++ ms))
expansion_extends macros room [] ms = extended [] (expansion macros room ms).texts (expansion macros room ms).end
expansion_extends macros room (l ∷ ls) ms = line_extends (nat_lt room (length l)) room (line_text macros l) _ _ (expansion_extends macros (room - length l) ls ms)

-- Tokens that begin with these.
abbrev IsFront : List Lexeme → List Lexeme → Type 0
IsFront front whole = (more : List Lexeme) × (whole ≡ front ++ more)

cut_front : (t : Bool) (token : Lexeme) (front whole : List Lexeme) → IsFront front whole → IsFront (token ∷ cond t [] front) (token ∷ cond t [] whole)
cut_front true token front whole h = ([], refl)
cut_front false token front whole h = (h.0, ap (λ ts. token ∷ ts) h.1)

chain_front : (o : Option Cut) (f g : List ℕ → List Lexeme) (m n : List Lexeme) → ((bs : List ℕ) → IsFront (f bs) (g bs)) → IsFront m n → IsFront (chain o f m) (chain o g n)
chain_front None f g m n h k = k
chain_front (Some cut) f g m n h k = cut_front (is_fault cut.token.kind) cut.token (f cut.rest) (g cut.rest) (h cut.rest)

turns_front : (turns line : ℕ) (bs : List ℕ) (m n : List Lexeme) → IsFront m n → IsFront (tokens_in turns line bs m) (tokens_in turns line bs n)
turns_front zero line bs m n k = k
turns_front (suc turns) line bs m n k =
    chain_front (token_at line (behind_gap bs)) (λ rest. tokens_in turns line rest m) (λ rest. tokens_in turns line rest n) m n (λ rest. turns_front turns line rest m n k) k

line_front : (line : ℕ) (bs : List ℕ) (m n : List Lexeme) → IsFront m n → IsFront (tokens_before line bs m) (tokens_before line bs n)
unfolding tokens_before
line_front line bs m n k = turns_front (length bs) line bs m n k

tokens_front : (line : ℕ) (texts others : List (List ℕ)) (end : End) → IsFront (tokens_of Whole line texts) (tokens_of end line (texts ++ others))
tokens_front line [] others end = (tokens_of end line others, refl)
tokens_front line (t ∷ ts) others end = line_front line t _ _ (tokens_front (line + 1) ts others end)

append_nil : (ts : List Lexeme) → ts ≡ ts ++ []
append_nil [] = refl
append_nil (t ∷ ts) = ap (λ us. t ∷ us) (append_nil ts)

front_of_texts : (e f : Expansion) → Extends e f → IsFront (tokens_of e.end 1 e.texts) (tokens_of f.end 1 f.texts)
front_of_texts e f (extended texts others end) = tokens_front 1 texts others end
front_of_texts e f (stopped x) = ([], append_nil (tokens_of x.end 1 x.texts))

-- A fault in some lines is the fault of each text that begins with them.
pub fault_of_lines : {S : Type 0} (rules : Rules S) (s : S) (macros : List Defined) (lines more : List ℕ) (e : DbFault) → ends_line lines ≡ true → filled_by rules s macros lines ≡ Err e → (e.kind ≡ kinds.OpenBody → ⊥) → filled_by rules s macros (lines ++ more) ≡ Err e
unfolding filled_by
fault_of_lines rules s macros lines more e ends i inside =
    let first = expansion macros most_bytes (lines_of lines) in
    let all = expansion macros most_bytes (lines_of (lines ++ more)) in
    let both : all ≡ expansion macros most_bytes (lines_of lines ++ lines_of more) = ap (expansion macros most_bytes) (lines_append lines more ends) in
    let front : IsFront (tokens_of first.end 1 first.texts) (tokens_of all.end 1 all.texts) =
    front_of_texts first all (rw both (expansion_extends macros most_bytes (lines_of lines) (lines_of more))) in
    ap (filled rules (length all.texts) s) front.1 ∙ filled_local (length first.texts) (length all.texts) front.0 rules s (tokens_of first.end 1 first.texts) e i inside
