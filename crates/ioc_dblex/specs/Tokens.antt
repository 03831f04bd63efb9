-- The tokens of a text, each with its line. The last one is the first fault, if there is one. EPICS
-- Application Developer's Guide, "Database Definition", "General Rules for Database Definition".
use Rattle.std.specs.Prelude.{◌≡◌, ℕ, zero, suc, ◌+◌, ◌-◌, List, [], ◌∷◌, length, Option, Some, None, if◌then◌else◌}
use Rattle.ioc_values.specs.declared.error.BadDbKind.TheVariants as kinds
use Rattle.ioc_dblex.specs.declared.token.TokenKind.TheVariants.{Fault}
use Rattle.ioc_dblex.specs.declared.texts.End.{End}
use Rattle.ioc_dblex.specs.declared.texts.End.TheVariants.{Whole, BadMacro, TooLong}
use Rattle.ioc_dblex.specs.Bytes.{behind_gap}
use Rattle.ioc_dblex.specs.Lexing.{Lexeme, Cut, is_fault, token_at}

-- The token of a cut, followed by those of the rest of the line. After a fault there are none; if
-- there is no token on the line, those after the line follow.
abbrev pub chain : Option Cut → (List ℕ → List Lexeme) → List Lexeme → List Lexeme
chain None inner more = more
chain (Some cut) inner more = cut.token ∷ (if is_fault cut.token.kind then [] else inner cut.rest)

-- The tokens of a line followed by others, in at most `turns` turns.
abbrev pub tokens_in : ℕ → ℕ → List ℕ → List Lexeme → List Lexeme
tokens_in zero line bs more = more
tokens_in (suc turns) line bs more = chain (token_at line (behind_gap bs)) (λ rest. tokens_in turns line rest more) more

-- The tokens of a line, followed by those of the lines after it. Each token has at least one byte.
unfoldable pub tokens_before : ℕ → List ℕ → List Lexeme → List Lexeme
tokens_before line bs more = tokens_in (length bs) line bs more

-- The token after the texts of lines, if any. The next line would have this number.
abbrev pub end_of : End → ℕ → List Lexeme
end_of Whole line = []
end_of BadMacro line = record { line = line; kind = Fault kinds.Macro; text = [] } ∷ []
end_of TooLong line = record { line = line - 1; kind = Fault kinds.TooMany; text = [] } ∷ []

-- The tokens of lines, starting with this line number.
abbrev pub tokens_of : End → ℕ → List (List ℕ) → List Lexeme
tokens_of end line [] = end_of end line
tokens_of end line (text ∷ texts) = tokens_before line text (tokens_of end (line + 1) texts)

-- Holds if the first of the tokens is taken.
abbrev pub TakesToken : List Lexeme → Option Lexeme → List Lexeme → Type 0
TakesToken old None new = (old ≡ []) × (new ≡ [])
TakesToken old (Some token) new = old ≡ token ∷ new

-- The first of the tokens.
abbrev pub front_of : List Lexeme → Option Lexeme
front_of [] = None
front_of (token ∷ rest) = Some token

-- The tokens from the rest of a line on.
abbrev pub tokens_at : ℕ → List ℕ → List (List ℕ) → End → List Lexeme
tokens_at line rest behind end = tokens_before line rest (tokens_of end (line + 1) behind)
