-- The tokens from a place on.
use Rattle.std.specs.Prelude.{List}
use Rattle.ioc_dblex.specs.declared.cursor.Cursor.{Cursor}
use Rattle.ioc_dblex.specs.Lexing.{Lexeme}
use Rattle.ioc_dblex.specs.Tokens.{tokens_at}
use Rattle.ioc_dblex.specs.SeenLines.{texts}

-- The tokens of the rest of the line, followed by those of the lines after it.
abbrev pub tokens_of_place : Cursor → List Lexeme
tokens_of_place p = tokens_at p.line p.rest.now (texts p.behind) p.end
