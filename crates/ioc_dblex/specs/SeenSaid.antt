-- The text of a token as contracts see it.
use Rattle.std.specs.Prelude.{ℕ, List}
use Rattle.ioc_dblex.specs.declared.escaped_text.TokenText.{TokenText}
use Rattle.ioc_dblex.specs.declared.escaped_text.TokenText.TheVariants.{Written, Unescaped}

-- The bytes of the text.
abbrev pub said_bytes : TokenText → List ℕ
said_bytes (Written bytes) = bytes.now
said_bytes (Unescaped bytes) = bytes.items
