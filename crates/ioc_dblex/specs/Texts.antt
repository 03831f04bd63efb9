-- The texts of a text's lines, up to the first that has none. EPICS Application Developer's Guide,
-- "Database Definition", "General Rules for Database Definition".
use Rattle.std.specs.Prelude.{ℕ, ◌-◌, ◌^◌, List, [], ◌∷◌, length, take, drop, nat_lt, Option, Some, None, if◌then◌else◌}
use Rattle.ioc_dblex.specs.declared.texts.End.{End}
use Rattle.ioc_dblex.specs.declared.texts.End.TheVariants.{Whole, BadMacro, TooLong}
use Rattle.ioc_dblex.specs.Macros.{Defined}
use Rattle.ioc_dblex.specs.Lines.{line_text}
use Rattle.ioc_dblex.specs.Lexing.{begun_within}

-- The parts of these lengths, from the front.
abbrev pub parts_of : List ℕ → List ℕ → List (List ℕ)
parts_of [] bytes = []
parts_of (n ∷ ns) bytes = take n bytes ∷ parts_of ns (drop n bytes)

-- The texts of lines, and the reason why they end.
pub record Expansion : Type 0 where
  pub texts : List (List ℕ)
  pub end : End

-- A line's text followed by those after it. A line that has no text ends them.
abbrev pub onto_texts : Option (List ℕ) → Expansion → Expansion
onto_texts None behind = record { texts = []; end = BadMacro }
onto_texts (Some text) behind = record { texts = text ∷ behind.texts; end = behind.end }

-- The expansion of the line on which the limit is exceeded. It ends with the last token that begins
-- before the limit.
abbrev pub last_text : ℕ → Option (List ℕ) → Expansion
last_text room None = record { texts = []; end = BadMacro }
last_text room (Some text) = record { texts = begun_within room text ∷ []; end = TooLong }

-- The texts of lines of which at most `room` bytes are read.
abbrev pub expansion : List Defined → ℕ → List (List ℕ) → Expansion
expansion ds room [] = record { texts = []; end = Whole }
expansion ds room (line ∷ lines) =
    if nat_lt room (length line) then last_text room (line_text ds line) else onto_texts (line_text ds line) (expansion ds (room - length line) lines)

-- 16 MiB, the maximum length of a text.
unfoldable pub most_bytes : ℕ
most_bytes = 2 ^ 24
