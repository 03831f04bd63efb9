-- Lines as contracts see them.
use Rattle.std.specs.Borrow.{Bor}
use Rattle.std.specs.Prelude.{◌≡◌, ℕ, ◌+◌, List, ◌∷◌, length, Option, Some, None}
use Rattle.ioc_dblex.specs.declared.token_lines.Lines.{Lines}
use Rattle.ioc_dblex.specs.Texts.{parts_of}

-- The texts of some lines.
abbrev pub texts : Lines → List (List ℕ)
texts lines = parts_of lines.lengths.now lines.bytes.now

-- Holds if the result is the first of the lines and those after it, or none if there are no lines.
abbrev pub TakesLine : Lines → Option (Bor (List ℕ) × Lines) → Type 0
TakesLine lines None = length lines.lengths.now ≡ 0
TakesLine lines (Some p) = (texts lines ≡ p.0.now ∷ texts p.1) × (length lines.lengths.now ≡ length p.1.lengths.now + 1)
