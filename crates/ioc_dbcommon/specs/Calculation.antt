-- Expressions as records keep them. Record Reference Manual, "Calculation Record", "CALC Expression".
use Rattle.std.specs.Prelude.{ℕ, ◌≡◌, List, [], ◌∷◌, codes, Option, Some, None, Result, Ok, Err}
use Rattle.ioc_calc.specs.declared.compiling.CalcFaultKind.{CalcFaultKind}
use Rattle.ioc_calc.specs.declared.program.Program.{Program}
use Rattle.ioc_calc.specs.Program.{code_of}
use Rattle.ioc_calc.specs.Programs.{fault_of}
use Rattle.ioc_calc.specs.Compiles.{Compiles}

-- The expression that is kept of a text, or why the text is none.
abbrev pub kept_of : List ℕ → Option CalcFaultKind → Result (List ℕ) CalcFaultKind
kept_of text None = Ok text
kept_of text (Some kind) = Err kind

unfoldable pub calculation_of : List ℕ → Result (List ℕ) CalcFaultKind
calculation_of text = kept_of text (fault_of text)

-- The text that is shown of an expression: 0 if none was set.
abbrev pub shown_text : List ℕ → List ℕ
shown_text [] = codes "0"
shown_text (b ∷ bs) = b ∷ bs

-- What is kept beside the text of an expression: its program, and none where no text was set.
abbrev pub HasProgram : List ℕ → Option Program → Type 0
HasProgram text None = text ≡ []
HasProgram text (Some program) = Compiles text (code_of program)
