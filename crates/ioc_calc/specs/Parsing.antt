-- What the parser does with its state. The grammar itself is in Grammar.
use Rattle.std.specs.Prelude.{ℕ, zero, suc, ◌-◌, ◌≡◌, Option, Some, None, Result, Ok, Err, List, [], ◌∷◌, ◌++◌, length, nat_lt, ◌==◌, if◌then◌else◌, option_and_then}
use Rattle.std.specs.Float.Ieee.{Float}
use Rattle.ioc_calc.specs.declared.operators.ListFunction.{ListFunction}
use Rattle.ioc_calc.specs.declared.operators.ListFunction.TheVariants.{Maximum}
use Rattle.ioc_calc.specs.declared.operators.Infix.{Infix}
use Rattle.ioc_calc.specs.declared.operators.Infix.TheVariants.{Multiply}
use Rattle.ioc_calc.specs.declared.operators.Exponent.{Exponent}
use Rattle.ioc_calc.specs.declared.program.Step.{Step}
use Rattle.ioc_calc.specs.declared.program.Step.TheVariants as steps
use Rattle.ioc_calc.specs.declared.token.Token.{Token}
use Rattle.ioc_calc.specs.declared.token.Token.TheVariants as tokens
use Rattle.ioc_calc.specs.declared.parser.Part.{Part}
use Rattle.ioc_calc.specs.declared.parser.Part.TheVariants as parts
use Rattle.ioc_calc.specs.declared.parser.Refused.{Refused}
use Rattle.ioc_calc.specs.Exponents.{exponent_of}
use Rattle.ioc_calc.specs.Levels.{level_of}
pub use Rattle.ioc_calc.specs.State.{State}

infixl 10 ◌>>=◌
abbrev pub ◌>>=◌ : {A B : Type 0} → Option A → (A → Option B) → Option B
o >>= f = option_and_then f o

-- what a call did is this
abbrev pub Parsed : Result (Unit {0}) Refused → State → Option State → Type 0
Parsed (Ok _) new parsed = parsed ≡ Some new
Parsed (Err _) new parsed = parsed ≡ None

-- ---- steps

-- the state with other tokens left
abbrev pub at : List Token → State → State
at rest s = record { rest = rest; steps = s.steps; numbers = s.numbers }

-- one more step
unfoldable pub emitted : Step → State → Option State
emitted step s = if nat_lt (length s.steps) 79 then Some
    (record { rest = s.rest; steps = s.steps ++ step ∷ []; numbers = s.numbers }) else None

-- one more number
unfoldable pub with_number : Float → State → Option State
with_number x s =
    if nat_lt (length s.numbers) 40 then emitted steps.Number
    (record { rest = s.rest; steps = s.steps; numbers = s.numbers ++ x ∷ [] }) else None

-- a closing bracket
abbrev pub closed_at : List Token → State → Option State
closed_at [] s = None
closed_at (tokens.Close ∷ rest) s = Some (at rest s)
closed_at (_ ∷ rest) s = None

unfoldable pub closed : State → Option State
closed s = closed_at s.rest s

-- ---- the parts

-- how a part is read
abbrev pub Reader : Type 0
Reader = Part → State → Option State

abbrev pub second_at : Reader → List Token → State → Option State
second_at reader [] s = None
second_at reader (tokens.Colon ∷ rest) s = do
  a ← reader parts.Value (at rest s)
  emitted steps.Choose a
second_at reader (_ ∷ rest) s = None

-- the second value of a choice, behind its colon
unfoldable pub second_with : Reader → State → Option State
second_with reader s = second_at reader s.rest s

abbrev pub choice_at : Reader → List Token → State → Option State
choice_at reader [] s = Some s
choice_at reader (tokens.Question ∷ rest) s = do
  a ← reader parts.Value (at rest s)
  second_with reader a
choice_at reader (_ ∷ rest) s = Some s

unfoldable pub choice_with : Reader → State → Option State
choice_with reader s = choice_at reader s.rest s

unfoldable pub value_with : Reader → State → Option State
value_with reader s = do
  a ← reader (parts.Level 6) s
  choice_with reader a

-- the operands of a function: in brackets, or one without
abbrev pub function_at : Reader → ListFunction → List Token → State → Option State
function_at reader function [] s = None
function_at reader function (tokens.Open ∷ rest) s = do
  a ← reader (parts.Arguments function) (at rest s)
  closed a
function_at reader function (token ∷ rest) s = do
  a ← reader (parts.Level 0) s
  emitted (steps.First function) a

unfoldable pub function_with : Reader → ListFunction → State → Option State
function_with reader function s = function_at reader function s.rest s

abbrev pub operand_at : Reader → List Token → State → Option State
operand_at reader [] s = None
operand_at reader (tokens.Number x ∷ rest) s = with_number x (at rest s)
operand_at reader (tokens.Argument place ∷ rest) s = emitted (steps.Argument place) (at rest s)
operand_at reader (tokens.Value ∷ rest) s = emitted steps.Value (at rest s)
operand_at reader (tokens.Random ∷ rest) s = emitted steps.Value (at rest s)
operand_at reader (tokens.Prefix operator ∷ rest) s = do
  a ← reader (parts.Level 0) (at rest s)
  emitted (steps.Prefix operator) a
operand_at reader (tokens.Open ∷ rest) s = do
  a ← reader parts.Value (at rest s)
  closed a
operand_at reader (tokens.Function function ∷ rest) s = function_with reader function (at rest s)
operand_at reader (tokens.LeftOutFunction _ ∷ rest) s = function_with reader Maximum (at rest s)
operand_at reader (_ ∷ rest) s = None

unfoldable pub operand_with : Reader → State → Option State
operand_with reader s = operand_at reader s.rest s

-- operands of the next tighter level, with the operators of this one between them
unfoldable pub level_with : Reader → ℕ → State → Option State
level_with reader level s =
    if level == 0 then operand_with reader s
    else reader (parts.Level (level - 1)) s >>= (λ a. reader (parts.Tail level) a)

-- A power: with an exponent that is written, or with any operand. The second is left out, and a
-- product stands for it, which isn't run.
abbrev pub power_from : Reader → Option (Exponent × List Token) → List Token → State → Option State
power_from reader (Some e) rest s = do
  a ← emitted (steps.Power e.0) (at e.1 s)
  reader (parts.Tail 1) a
power_from reader None rest s = do
  a ← reader (parts.Level 0) (at rest s)
  b ← emitted (steps.Infix Multiply) a
  reader (parts.Tail 1) b

unfoldable pub power_with : Reader → List Token → State → Option State
power_with reader rest s = power_from reader (exponent_of rest) rest s

unfoldable pub operator_with : Reader → ℕ → Infix → List Token → State → Option State
operator_with reader level operator rest s = do
  a ← reader (parts.Level (level - 1)) (at rest s)
  b ← emitted (steps.Infix operator) a
  reader (parts.Tail level) b

abbrev pub tail_at : Reader → ℕ → List Token → State → Option State
tail_at reader level [] s = Some s
tail_at reader level (tokens.Infix operator ∷ rest) s =
    if level_of operator == level then operator_with reader level operator rest s else Some s
tail_at reader level (tokens.Power _ ∷ rest) s = if level == 1 then power_with reader rest s else Some s
tail_at reader level (_ ∷ rest) s = Some s

unfoldable pub tail_with : Reader → ℕ → State → Option State
tail_with reader level s = tail_at reader level s.rest s

unfoldable pub arguments_with : Reader → ListFunction → State → Option State
arguments_with reader function s = do
  a ← reader parts.Value s
  b ← emitted (steps.First function) a
  reader (parts.MoreArguments function) b

abbrev pub more_arguments_at : Reader → ListFunction → List Token → State → Option State
more_arguments_at reader function [] s = Some s
more_arguments_at reader function (tokens.Comma ∷ rest) s = do
  a ← reader parts.Value (at rest s)
  b ← emitted (steps.Next function) a
  reader (parts.MoreArguments function) b
more_arguments_at reader function (_ ∷ rest) s = Some s

unfoldable pub more_arguments_with : Reader → ListFunction → State → Option State
more_arguments_with reader function s = more_arguments_at reader function s.rest s

abbrev pub part_with : Reader → Part → State → Option State
part_with reader parts.Value s = value_with reader s
part_with reader (parts.Level level) s = level_with reader level s
part_with reader (parts.Tail level) s = tail_with reader level s
part_with reader (parts.Arguments function) s = arguments_with reader function s
part_with reader (parts.MoreArguments function) s = more_arguments_with reader function s

-- a part, in at most so many turns into its parts
unfoldable pub parse : ℕ → Part → State → Option State
parse zero part s = None
parse (suc turns) part s = part_with (parse turns) part s
