-- From the texts of lines to the database that they make.
use Rattle.std.proofs.Common.{◌≡◌, ℕ, List, [], ◌∷◌, length, drop, refl, sym, ap, ◌∙◌, arith}
use Rattle.ioc_dblex.specs.declared.texts.Texts.{Texts}
use Rattle.ioc_dblex.specs.Lines.{lines_of}
use Rattle.ioc_dblex.specs.Macros.{Defined}
use Rattle.ioc_dblex.specs.Lexing.{Lexeme}
use Rattle.ioc_dblex.specs.Tokens.{tokens_of}
use Rattle.ioc_dblex.specs.Texts.{parts_of, expansion, most_bytes}
use Rattle.ioc_dblex.specs.SeenTexts.{expansion_of}
use Rattle.ioc_dbparse.specs.Rules.{Rules}
use Rattle.ioc_dbparse.specs.Statements.{filled}
use Rattle.ioc_dbparse.specs.Loading.{filled_by_texts, filled_by}

-- There are as many parts as lengths.
length-parts_of : (ns bytes : List ℕ) → length (parts_of ns bytes) ≡ length ns
length-parts_of [] bytes = refl
length-parts_of (n ∷ ns) bytes = omega (arith, length-parts_of ns (drop n bytes))

-- The tokens of the expanded text fill the database as the text does.
pub filled_so : {S : Type 0} (rules : Rules S) (s : S) (macros : List Defined) (t : Texts) (text : List ℕ) (last : ℕ) (tokens : List Lexeme) → expansion_of t ≡ expansion macros most_bytes (lines_of text) → last ≡ length t.lengths.items
    → tokens ≡ tokens_of t.end 1 (expansion_of t).texts → filled rules last s tokens ≡ filled_by rules s macros text
unfolding filled_by
filled_so rules s macros t text last tokens same count from =
    let all : length (expansion_of t).texts ≡ length t.lengths.items = length-parts_of t.lengths.items t.bytes.items in
    ap (λ (n : ℕ). filled rules n s tokens) (count ∙ sym all) ∙ ap (filled rules (length (expansion_of t).texts) s) from ∙ ap (filled_by_texts rules s) same
