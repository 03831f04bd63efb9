-- The database that a database text makes.
use Rattle.std.specs.Prelude.{ℕ, List, length, Result}
use Rattle.ioc_values.specs.declared.error.DbFault.{DbFault}
use Rattle.ioc_dblex.specs.Lines.{lines_of}
use Rattle.ioc_dblex.specs.Macros.{Defined}
use Rattle.ioc_dblex.specs.Texts.{Expansion, expansion, most_bytes}
use Rattle.ioc_dblex.specs.Tokens.{tokens_of}
use Rattle.ioc_dbparse.specs.Rules.{Rules}
use Rattle.ioc_dbparse.specs.Statements.{filled}

-- The database that the texts of lines make of a database.
abbrev pub filled_by_texts : {S : Type 0} → Rules S → S → Expansion → Result S DbFault
filled_by_texts rules s e = filled rules (length e.texts) s (tokens_of e.end 1 e.texts)

-- The database that a text with these macros makes of a database, or its first fault.
unfoldable pub filled_by : {S : Type 0} → Rules S → S → List Defined → List ℕ → Result S DbFault
filled_by rules s macros text = filled_by_texts rules s (expansion macros most_bytes (lines_of text))
