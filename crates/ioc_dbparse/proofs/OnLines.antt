-- Spelled statements read as these statements, on one line and on several.
use Rattle.std.proofs.Common.{◌≡◌, ℕ, ◌+◌, ◌-◌, ◌≤◌, ◌<◌, true, false, ◌&&◌, eqb, nat_lt, List, [], ◌∷◌, ◌++◌, length, Option, Some, None, Ok, refl, sym, ap, ◌∙◌, arith, length-append, le-ltb}
use Rattle.std.specs.List.{onto_first}
use Rattle.ioc_dblex.specs.declared.texts.End.TheVariants.{Whole}
use Rattle.ioc_dblex.specs.Macros.{Defined}
use Rattle.ioc_dblex.specs.Lines.{begins_with, without_end, lines_of, line_text}
use Rattle.ioc_dblex.specs.Lexing.{Lexeme, is_sign}
use Rattle.ioc_dblex.specs.Tokens.{tokens_before, tokens_of}
use Rattle.ioc_dblex.specs.Texts.{Expansion, expansion, most_bytes}
use Rattle.ioc_dbparse.specs.Rules.{Rules}
use Rattle.ioc_dbparse.specs.Statements.{filled}
use Rattle.ioc_dbparse.specs.Loading.{filled_by}
use Rattle.ioc_dbparse.specs.Spelling.{Each, is_space, is_inner, escaped_of, Statement, Piece, Call, Mark, Text, pieces_of, with_gaps, spelled, PieceLine, comment_text, IsComment, on_lines, pieces_on, Spaced, PlainStatements, Makes}
use Rattle.ioc_dblex.proofs.Turns.{tokens_nil}
use Rattle.ioc_dbparse.proofs.Lexed.{Fine, other_byte, is_unfed, all_unfed, line_text_is, line_text_same, one_line, not_feed, never}
use Rattle.ioc_dbparse.proofs.Spelled.{lexemes, pieces_tokens}
use Rattle.ioc_dbparse.proofs.Reading.{statements_count, statements_fine}
use Rattle.ioc_dbparse.proofs.Saying.{Says, says_append, says_self, tokens_said}

-- Lemmas about a plain line with its line feed.

abbrev feed : List ℕ
feed = 10 ∷ []

line_first : (line rest : List ℕ) → Each is_unfed line → lines_of (line ++ (10 ∷ rest)) ≡ (line ++ feed) ∷ lines_of rest
line_first [] rest h = refl
line_first (b ∷ bs) rest h = rw (not_feed b h.0) (ap (onto_first b) (line_first bs rest h.1))

-- The last byte is no carriage return.
abbrev Ends : List ℕ → Type 0
Ends [] = Unit {0}
Ends (b ∷ []) = eqb b 13 ≡ false
Ends (b ∷ c ∷ cs) = Ends (c ∷ cs)

ends_cons : (b : ℕ) (bs : List ℕ) → eqb b 13 ≡ false → Ends bs → Ends (b ∷ bs)
ends_cons b [] e h = e
ends_cons b (c ∷ cs) e h = h

ends_behind : (xs : List ℕ) (y : ℕ) (ys : List ℕ) → Ends (y ∷ ys) → Ends (xs ++ (y ∷ ys))
ends_behind [] y ys h = h
ends_behind (x ∷ []) y ys h = h
ends_behind (x ∷ z ∷ zs) y ys h = ends_behind (z ∷ zs) y ys h

ends_space : (gap : List ℕ) → Each is_space gap → Ends gap
ends_space [] h = tt
ends_space (b ∷ bs) h = ends_cons b bs (other_byte is_space b 13 h.0 refl) (ends_space bs h.1)

ends_append : (xs ys : List ℕ) → Ends xs → Ends ys → Ends (xs ++ ys)
ends_append [] ys h k = k
ends_append (x ∷ []) ys h k = ends_cons x ys h k
ends_append (x ∷ z ∷ zs) ys h k = ends_append (z ∷ zs) ys h k

ends_inner : (bs : List ℕ) → Each is_inner bs → Ends bs
ends_inner [] h = tt
ends_inner (b ∷ bs) h = ends_cons b bs (other_byte is_inner b 13 h.0 refl) (ends_inner bs h.1)

ends_comment : (c : Option (List ℕ)) → IsComment c → Ends (comment_text c)
ends_comment None h = tt
ends_comment (Some c) h = ends_cons 35 c refl (ends_inner c h)

some_behind : (xs : List ℕ) (y : ℕ) (ys : List ℕ) → 0 < length (xs ++ (y ∷ ys))
some_behind xs y ys = omega (arith, length-append xs (y ∷ ys))

some_far : (xs ys : List ℕ) → 0 < length ys → 0 < length (xs ++ ys)
some_far xs ys h = omega (arith, length-append xs ys)

ends_far : (xs ys : List ℕ) → 0 < length ys → Ends ys → Ends (xs ++ ys)
ends_far xs [] k e = absurd (omega arith)
ends_far xs (y ∷ ys) k e = ends_behind xs y ys e

ends_line : (gaps : ℕ → List ℕ) (i : ℕ) (ps : List Piece) (tail : List ℕ) → ((i : ℕ) → Each is_space (gaps i)) → Fine ps → Ends tail → Ends (with_gaps gaps i ps tail)
unfolding is_sign
ends_line gaps i [] tail spaces h k = ends_append (gaps i) tail (ends_space (gaps i) (spaces i)) k
ends_line gaps i (Call word ∷ ps) tail spaces h k =
    let behind = with_gaps gaps (i + 2) ps tail in
    let bracket = ends_behind (gaps (i + 1)) 40 behind (ends_cons 40 behind refl (ends_line gaps (i + 2) ps tail spaces h.2 k)) in
    ends_far (gaps i) (word ++ (gaps (i + 1) ++ (40 ∷ behind))) (some_far word (gaps (i + 1) ++ (40 ∷ behind)) (some_behind (gaps (i + 1)) 40 behind)) (ends_far word (gaps (i + 1) ++ (40 ∷ behind)) (some_behind (gaps (i + 1)) 40 behind) bracket)
ends_line gaps i (Mark b ∷ ps) tail spaces h k =
    let behind = with_gaps gaps (i + 1) ps tail in
    ends_behind (gaps i) b behind (ends_cons b behind (other_byte is_sign b 13 h.0 refl) (ends_line gaps (i + 1) ps tail spaces h.1 k))
ends_line gaps i (Text text ∷ ps) tail spaces h k =
    let behind = with_gaps gaps (i + 1) ps tail in
    let rest = ends_cons 34 behind refl (ends_line gaps (i + 1) ps tail spaces h.1 k) in
    ends_behind (gaps i) 34 (escaped_of text ++ (34 ∷ behind)) (ends_cons 34 (escaped_of text ++ (34 ∷ behind)) refl (ends_behind (escaped_of text) 34 behind rest))

no_end_step : (b : ℕ) (bs line : List ℕ) → is_unfed b ≡ true → ((eqb b 13) && begins_with 10 bs) ≡ false → without_end bs ≡ line → without_end (b ∷ bs) ≡ b ∷ line
no_end_step b bs line h k e = rw (not_feed b h, k) (ap (λ (l : List ℕ). b ∷ l) e)

no_end_feed : (line : List ℕ) → Each is_unfed line → Ends line → without_end (line ++ feed) ≡ line
no_end_feed [] h e = refl
no_end_feed (b ∷ []) h e = rw (not_feed b h.0, e) refl
no_end_feed (b ∷ c ∷ cs) h e =
    let apart : ((eqb b 13) && begins_with 10 (c ∷ cs ++ feed)) ≡ false = rw (not_feed c h.1.0) (never (eqb b 13)) in
    no_end_step b (c ∷ cs ++ feed) (c ∷ cs) h.0 apart (no_end_feed (c ∷ cs) h.1 e)

-- The text of a line of pieces is the line without its comment and its line feed.
text_same : (macros : List Defined) (gaps : ℕ → List ℕ) (ps : List Piece) (c : Option (List ℕ)) → ((i : ℕ) → Each is_space (gaps i)) → Fine ps → IsComment c → line_text macros (with_gaps gaps 0 ps (comment_text c) ++ feed) ≡ Some (with_gaps gaps 0 ps [])
text_same macros gaps ps c spaces h k =
    line_text_is gaps spaces macros _ ps c h (no_end_feed (with_gaps gaps 0 ps (comment_text c)) (all_unfed gaps spaces ps h c k) (ends_line gaps 0 ps (comment_text c) spaces h (ends_comment c k)))

-- Lemmas about all lines.

-- The texts of lines.
abbrev texts_on : List PieceLine → List (List ℕ)
texts_on [] = []
texts_on (l ∷ ls) = with_gaps l.gaps 0 l.pieces [] ∷ texts_on ls

-- The pieces of each line can be spelled.
abbrev FineLines : List PieceLine → Type 0
FineLines [] = Unit {0}
FineLines (l ∷ ls) = Fine l.pieces × FineLines ls

fine_front : (ps qs : List Piece) → Fine (ps ++ qs) → Fine ps × Fine qs
fine_front [] qs h = (tt, h)
fine_front (Call word ∷ ps) qs h = let k = fine_front ps qs h.2 in ((h.0, h.1, k.0), k.1)
fine_front (Mark b ∷ ps) qs h = let k = fine_front ps qs h.1 in ((h.0, k.0), k.1)
fine_front (Text text ∷ ps) qs h = let k = fine_front ps qs h.1 in ((h.0, k.0), k.1)

fine_lines : (ls : List PieceLine) → Fine (pieces_on ls) → FineLines ls
fine_lines [] h = tt
fine_lines (l ∷ ls) h = let k = fine_front l.pieces (pieces_on ls) h in (k.0, fine_lines ls k.1)

expanded : (macros : List Defined) (room : ℕ) (ls : List PieceLine) → Spaced ls → FineLines ls → length (on_lines ls) ≤ room → expansion macros room (lines_of (on_lines ls)) ≡ record { texts = texts_on ls; end = Whole }
expanded macros room [] spaced fine le = refl
expanded macros room (l ∷ ls) spaced fine le =
    let text = with_gaps l.gaps 0 l.pieces (comment_text l.comment) in
    let size : length (text ++ (10 ∷ on_lines ls)) ≡ length text + (length (on_lines ls) + 1) = omega (arith, length-append text (10 ∷ on_lines ls)) in
    let line : length (text ++ feed) ≡ length text + 1 = omega (arith, length-append text feed) in
    let within : nat_lt room (length (text ++ feed)) ≡ false = le-ltb room (length (text ++ feed)) (omega arith) in
    let others = expanded macros (room - length (text ++ feed)) ls spaced.2 fine.1 (omega arith) in
    rw (line_first text (on_lines ls) (all_unfed l.gaps spaced.0 l.pieces fine.0 l.comment spaced.1), within, text_same macros l.gaps l.pieces l.comment spaced.0 fine.0 spaced.1, others) refl

lexemes_on : ℕ → List PieceLine → List Lexeme
lexemes_on n [] = []
lexemes_on n (l ∷ ls) = lexemes n l.pieces ++ lexemes_on (n + 1) ls

tokens_on : (n : ℕ) (ls : List PieceLine) → Spaced ls → FineLines ls → tokens_of Whole n (texts_on ls) ≡ lexemes_on n ls
unfolding lexemes_on
tokens_on n [] spaced fine = refl
tokens_on n (l ∷ ls) spaced fine = pieces_tokens l.gaps spaced.0 n (tokens_of Whole (n + 1) (texts_on ls)) 0 l.pieces fine.0 ∙ ap (λ ts. lexemes n l.pieces ++ ts) (tokens_on (n + 1) ls spaced.2 fine.1)

says_on : (n : ℕ) (ls : List PieceLine) → Says (pieces_on ls) (lexemes_on n ls)
unfolding lexemes_on
says_on n [] = refl
says_on n (l ∷ ls) = says_append n l.pieces (pieces_on ls) (lexemes_on (n + 1) ls) (says_on (n + 1) ls)

-- Statements that are spelled on lines read as these statements.
pub spelled_on_lines : {S : Type 0} (rules : Rules S) (statements : List Statement) (lines : List PieceLine) (macros : List Defined) (old new : S) → pieces_on lines ≡ pieces_of statements → Spaced lines → PlainStatements statements → length (on_lines lines) ≤ most_bytes → Makes rules statements old new
    → filled_by rules old macros (on_lines lines) ≡ Ok new
unfolding filled_by most_bytes
spelled_on_lines rules xs ls macros old new same spaced plain short makes =
    let fine = fine_lines ls (rw same (statements_fine xs plain)) in
    let all : expansion macros most_bytes (lines_of (on_lines ls)) ≡ record { texts = texts_on ls; end = Whole } = expanded macros most_bytes ls spaced fine short in
    let said : Says (pieces_of xs) (lexemes_on 1 ls) = rw (← same) (says_on 1 ls) in
    ap (λ (x : Expansion). filled rules (length x.texts) old (tokens_of x.end 1 x.texts)) all ∙ ap (filled rules (length (texts_on ls)) old) (tokens_on 1 ls spaced fine) ∙ tokens_said rules (length (texts_on ls)) xs old new (lexemes_on 1 ls) (statements_count xs) makes said

-- Lemmas about one line without a line feed.

abbrev tokens_of_expansion : Expansion → List Lexeme
tokens_of_expansion e = tokens_of e.end 1 e.texts

one_text : (macros : List Defined) (room : ℕ) (text : List ℕ) → Each is_unfed text → line_text macros text ≡ Some text → length text ≤ room → tokens_of_expansion (expansion macros room (lines_of text)) ≡ tokens_before 1 text []
one_text macros room [] h e le = sym (tokens_nil 1 [])
one_text macros room (b ∷ bs) h e le =
    let within : nat_lt room (length (b ∷ bs)) ≡ false = le-ltb room (length (b ∷ bs)) le in
    rw (one_line b bs h, within, e) refl

lexemes_nil : (ts : List Lexeme) → ts ++ [] ≡ ts
lexemes_nil [] = refl
lexemes_nil (t ∷ ts) = ap (λ us. t ∷ us) (lexemes_nil ts)

-- The spelled form of statements, with any blanks, reads as these statements.
pub spelled_is_read : {S : Type 0} (rules : Rules S) (statements : List Statement) (gaps : ℕ → List ℕ) (macros : List Defined) (old new : S) → ((i : ℕ) → Each is_space (gaps i)) → PlainStatements statements → length (spelled gaps statements) ≤ most_bytes → Makes rules statements old new
    → filled_by rules old macros (spelled gaps statements) ≡ Ok new
unfolding filled_by most_bytes
spelled_is_read rules xs gaps macros old new spaces plain short makes =
    let ps = pieces_of xs in
    let fine = statements_fine xs plain in
    let text = with_gaps gaps 0 ps [] in
    let e = expansion macros most_bytes (lines_of text) in
    let tokens : tokens_of_expansion e ≡ lexemes 1 ps = one_text macros most_bytes text (all_unfed gaps spaces ps fine None tt) (line_text_same gaps spaces macros ps fine) short ∙ pieces_tokens gaps spaces 1 [] 0 ps fine ∙ lexemes_nil (lexemes 1 ps) in
    ap (filled rules (length e.texts) old) tokens ∙ tokens_said rules (length e.texts) xs old new (lexemes 1 ps) (statements_count xs) makes (says_self 1 ps)
