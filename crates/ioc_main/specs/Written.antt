-- What a writer took of a text.
use Rattle.std.specs.Prelude.{◌≡◌, ℕ, List, ◌∷◌, ◌++◌, Option}
use Rattle.std.specs.Io.KnownBytes.{Appends}
use Rattle.ioc_main.specs.declared.fault.LineFault.{LineFault}
use Rattle.ioc_main.specs.declared.fault.LineFault.TheVariants as line
use Rattle.ioc_main.specs.declared.fault.ScriptFault.{ScriptFault}
use Rattle.ioc_main.specs.declared.fault.ScriptFault.TheVariants.{Read, Write, Memory}

-- Holds if the writer took the beginning of the text up to `rest`.
abbrev pub Writes : Option (List ℕ) → List ℕ → Option (List ℕ) → List ℕ → Type 0
Writes old text new rest = (front : List ℕ) × (text ≡ front ++ rest) × Appends old new front

-- Holds if the writer took a beginning of the text.
abbrev pub WritesFront : Option (List ℕ) → List ℕ → Option (List ℕ) → Type 0
WritesFront old text new = (rest : List ℕ) × Writes old text new rest

-- Holds if the writer took a beginning of the text and not all of it.
abbrev pub WritesPart : Option (List ℕ) → List ℕ → Option (List ℕ) → Type 0
WritesPart old text new = (b : ℕ) × (rest : List ℕ) × Writes old text new (b ∷ rest)

-- What was written of the transcript if a line stopped it: after a failed write, not all of it.
abbrev pub StopsLine : LineFault → Option (List ℕ) → List ℕ → Option (List ℕ) → Type 0
StopsLine line.Write old text new = WritesPart old text new
StopsLine line.Memory old text new = WritesFront old text new

-- What was written of the transcript if the script stopped.
abbrev pub StopsScript : ScriptFault → Option (List ℕ) → List ℕ → Option (List ℕ) → Type 0
StopsScript (Read reason) old text new = WritesFront old text new
StopsScript Write old text new = WritesPart old text new
StopsScript Memory old text new = WritesFront old text new
