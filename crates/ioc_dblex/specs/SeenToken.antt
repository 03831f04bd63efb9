-- Tokens as contracts see them.
use Rattle.std.specs.Borrow.{Bor}
use Rattle.std.specs.Prelude.{◌≡◌, ℕ, List, Option, Some, None}
use Rattle.ioc_dblex.specs.declared.token.Token.{Token}
use Rattle.ioc_dblex.specs.Lexing.{Lexeme, Cut}

-- A token with its text.
abbrev pub seen : Token → Lexeme
seen t = record { line = t.line; kind = t.kind; text = t.text.now }

-- Holds if the result is the expected cut, with slices.
abbrev pub CutsSo : Option Cut → Option (Token × Bor (List ℕ)) → Type 0
CutsSo want None = want ≡ None
CutsSo want (Some p) = want ≡ Some (record { token = seen p.0; rest = p.1.now })
