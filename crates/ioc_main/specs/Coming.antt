-- What is still to be printed while a script is read.
use Rattle.std.specs.Prelude.{◌≡◌, ℕ, List, [], ◌∷◌, ◌++◌, ⊤, Option, Some, None}
use Rattle.ioc_commands.specs.Commands.{lines_of, cut}
use Rattle.ioc_main.specs.Written.{Writes, StopsLine}
use Rattle.ioc_main.specs.declared.fault.LineFault.{LineFault}

-- The lines of the beginning of a line followed by other lines.
abbrev pub onto : List ℕ → List (List ℕ) → List (List ℕ)
onto [] [] = []
onto (b ∷ bs) [] = (b ∷ bs) ∷ []
onto front (line ∷ lines) = (front ++ line) ∷ lines

-- What is still to be printed: the pending replies, followed by what is printed for the remaining
-- lines.
abbrev pub still : List ℕ → (List (List ℕ) → List ℕ) → List (List ℕ) → List ℕ
still said transcript lines = said ++ transcript lines

-- Holds if the replies that were pending are the beginning of those pending now.
abbrev pub Stands : List ℕ → List ℕ → Type 0
Stands before now = (since : List ℕ) × (now ≡ before ++ since)

-- All that is still to be printed, if this beginning of a line was read and these bytes are still
-- to be read.
unfoldable pub to_come : (List (List ℕ) → List ℕ) → List ℕ → List ℕ → List ℕ
to_come transcript line bytes = transcript (onto line (lines_of bytes))

-- Holds if, whatever lines follow this one, what was written and what is still to be printed make
-- up what was to be printed.
abbrev pub AnswersLine : Option (List ℕ) → (List (List ℕ) → List ℕ) → List ℕ → Option (List ℕ) → (List (List ℕ) → List ℕ) → Type 0
AnswersLine old before line new after = (lines : List (List ℕ)) → Writes old (before (line ∷ lines)) new (after lines)

-- What was written if this line stopped the script, whatever lines follow it.
abbrev pub StopsAtLine : LineFault → Option (List ℕ) → (List (List ℕ) → List ℕ) → List ℕ → Option (List ℕ) → Type 0
StopsAtLine fault old before line new = (lines : List (List ℕ)) → StopsLine fault old (before (line ∷ lines)) new

-- The same for a piece of the script behind this beginning of a line, whatever bytes follow it.
abbrev pub AnswersPiece :
    Option (List ℕ) → (List (List ℕ) → List ℕ) → List ℕ → List ℕ → Option (List ℕ) → (List (List ℕ) → List ℕ) → List ℕ → Type 0
AnswersPiece old before line piece new after left =
    (rest : List ℕ) → Writes old (to_come before line (piece ++ rest)) new (to_come after left rest)

abbrev pub StopsInPiece : LineFault → Option (List ℕ) → (List (List ℕ) → List ℕ) → List ℕ → List ℕ → Option (List ℕ) → Type 0
StopsInPiece fault old before line piece new = (rest : List ℕ) → StopsLine fault old (to_come before line (piece ++ rest)) new

-- Holds if the bytes of a line past its 1,025th have no effect.
abbrev pub CutsLines : (List (List ℕ) → List ℕ) → Type 0
CutsLines transcript = (a b : List ℕ) (lines : List (List ℕ)) → cut a ≡ cut b → transcript (a ∷ lines) ≡ transcript (b ∷ lines)

-- Holds if what was written and what is to be printed make the transcript of the whole script.
abbrev pub ReadsSo :
    (List (List ℕ) → List ℕ) → Option (List ℕ) → Option (List ℕ) → Option (List ℕ) → (List (List ℕ) → List ℕ) → List ℕ → Option (List ℕ)
    → Type 0
ReadsSo whole None left old transcript line new = ⊤
ReadsSo whole (Some script) None old transcript line new = ⊥
ReadsSo whole (Some script) (Some bytes) old transcript line new = Writes old (whole (lines_of script)) new (to_come transcript line bytes)
