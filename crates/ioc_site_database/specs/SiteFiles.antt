-- Which macros hold in which file of a site.
use Rattle.std.specs.Prelude.{ℕ, List, [], ◌∷◌, ◌++◌, ◌==◌, if◌then◌else◌}
use Rattle.std.specs.List.{onto_first}
use Rattle.ioc_dblex.specs.Macros.{Defined}
use Rattle.ioc_site_lines.specs.Defining.{definitions_of}

-- The macros of words, in their order.
abbrev pub words_defined : List (List ℕ) → List Defined
words_defined [] = []
words_defined (w ∷ ws) = definitions_of w ++ words_defined ws

-- The words between the bytes 0 of a text.
abbrev pub zero_parts : List ℕ → List (List ℕ)
zero_parts [] = [] ∷ []
zero_parts (b ∷ bs) = if b == 0 then [] ∷ zero_parts bs else onto_first b (zero_parts bs)

-- The macros of words of `-m`, and of the words of a text behind them.
abbrev pub macros_in : List (List ℕ) → List ℕ → List Defined
macros_in words behind = words_defined words ++ words_defined (zero_parts behind)

-- A file with its words of `-m` holds these macros, and those of the words of a text behind them.
abbrev pub holding : List ℕ → List ℕ → List (List ℕ) → List ℕ × List Defined
holding behind path words = (path, macros_in words behind)
