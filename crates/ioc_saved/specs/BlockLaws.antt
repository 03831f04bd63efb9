-- What a load reads of the line of a saved value.
use Rattle.std.specs.Prelude.{◌≡◌, ℕ, false, true, List, [], ◌∷◌, ◌++◌, Some, codes}
use Rattle.std.specs.List.{flat_map}
use Rattle.ioc_dblex.specs.Escapes.{unescaped_from}
use Rattle.ioc_dblex.specs.Lexing.{Lexeme}
use Rattle.ioc_dblex.specs.Lines.{lines_of, line_text}
use Rattle.ioc_dblex.specs.Macros.{Defined}
use Rattle.ioc_dblex.specs.Tokens.{tokens_before}
use Rattle.ioc_dblex.specs.declared.token.TokenKind.TheVariants.{Sign, Word, Quoted}
use Rattle.ioc_saved.specs.declared.value.SavedValue.{SavedValue}
use Rattle.ioc_saved.specs.Blocks.{quoted_byte, block_of}

abbrev pub sign : ℕ → ℕ → Lexeme
sign n b = record { line = n; kind = Sign b; text = [] }

abbrev pub word : ℕ → List ℕ → Lexeme
word n text = record { line = n; kind = Word; text = text }

-- A text between double quotes, as it is written.
abbrev pub said : ℕ → List ℕ → Lexeme
said n text = record { line = n; kind = Quoted; text = flat_map quoted_byte text }

-- `record(TYPE,"REC"){field(F,"VALUE")}` on the line with this number.
abbrev pub block_tokens : ℕ → List ℕ → SavedValue → List Lexeme
block_tokens n record_type v =
    word n (codes "record") ∷ sign n 40 ∷ word n record_type ∷ sign n 44 ∷ said n v.record_name ∷ sign n 41 ∷ sign n 123
    ∷ word n (codes "field") ∷ sign n 40 ∷ word n v.field ∷ sign n 44 ∷ said n v.value ∷ sign n 41 ∷ sign n 125 ∷ []

-- The block is one line, which has these tokens whatever macros there are, and the texts between its quotes are read as the name and
-- the value.
pub record IsRead (record_type : List ℕ) (v : SavedValue) : Type 0 where
  pub text : List ℕ
  pub one_line : (behind : List ℕ) → lines_of (block_of record_type v ++ behind) ≡ block_of record_type v ∷ lines_of behind
  pub line : (macros : List Defined) → line_text macros (block_of record_type v) ≡ Some text
  pub tokens : (n : ℕ) (behind : List Lexeme) → tokens_before n text behind ≡ block_tokens n record_type v ++ behind
  pub record_name : unescaped_from false false (flat_map quoted_byte v.record_name) ≡ v.record_name
  pub value : unescaped_from true false (flat_map quoted_byte v.value) ≡ v.value
