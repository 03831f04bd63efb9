-- What a text is read as, and what comes of running it. `means` in the laws says that this is what the grammar means.
use Rattle.std.specs.Prelude.{ℕ, false, List, [], ◌∷◌, length, nat_lt, if◌then◌else◌, Option, Some, None, Result, Ok, Err}
use Rattle.std.specs.Float.Ieee.{Float}
use Rattle.ioc_calc.specs.declared.token.Token.{Token}
use Rattle.ioc_calc.specs.declared.token.LeftOut.{LeftOut as Word}
use Rattle.ioc_calc.specs.declared.compiling.CalcFaultKind.{CalcFaultKind}
use Rattle.ioc_calc.specs.declared.compiling.CalcFaultKind.TheVariants.{Bad, LeftOut}
use Rattle.ioc_calc.specs.State.{State}
use Rattle.ioc_calc.specs.Machine.{Code, Machine, ran}
use Rattle.ioc_calc.specs.Stack.{top}
use Rattle.ioc_calc.specs.Statements.{statements}
use Rattle.ioc_calc.specs.Tokens.{tokens_of, left_out_in}

-- the program of what the parser has read, in which this is left out
abbrev pub program_with : Option Word → State → Result Code CalcFaultKind
program_with None s = Ok (record { steps = s.steps; numbers = s.numbers })
program_with (Some word) s = Err (LeftOut word)

-- the program of tokens, given what the parser reads of them
abbrev pub program_read : List Token → Option State → Result Code CalcFaultKind
program_read tokens None = Err Bad
program_read tokens (Some s) = program_with (left_out_in tokens) s

abbrev pub program_of_tokens : Option (List Token) → Result Code CalcFaultKind
program_of_tokens None = Err Bad
program_of_tokens (Some tokens) = program_read tokens (statements 80 false (record { rest = tokens; steps = []; numbers = [] }))

-- the program of a text of 1 to 79 bytes, or why it is no expression
unfoldable pub program_of : List ℕ → Result Code CalcFaultKind
program_of [] = Err Bad
program_of (b ∷ bs) = if nat_lt (length bs) 79 then program_of_tokens (tokens_of (b ∷ bs)) else Err Bad

abbrev pub fault_in : Result Code CalcFaultKind → Option CalcFaultKind
fault_in (Ok code) = None
fault_in (Err kind) = Some kind

-- why a text is no expression; nothing if it is one
abbrev pub fault_of : List ℕ → Option CalcFaultKind
fault_of text = fault_in (program_of text)

-- a run of a program; without one nothing is done
abbrev pub run_with : Result Code CalcFaultKind → Float → List Float → Machine
run_with (Ok code) before arguments = ran before code.steps (record { arguments = arguments; numbers = code.numbers; stack = [] })
run_with (Err kind) before arguments = record { arguments = arguments; numbers = []; stack = [] }

-- What a text gives, with this VAL before the run and these arguments: 0 if it is no expression. And the arguments after it.
unfoldable pub value_by : List ℕ → Float → List Float → Float
value_by text before arguments = top (run_with (program_of text) before arguments).stack

unfoldable pub arguments_by : List ℕ → Float → List Float → List Float
arguments_by text before arguments = (run_with (program_of text) before arguments).arguments
