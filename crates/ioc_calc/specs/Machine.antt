-- The steps of an expression, and what a run of steps does.
use Rattle.std.specs.Prelude.{ℕ, ◌+◌, ◌-◌, ◌≡◌, Bool, List, [], ◌∷◌, ◌++◌, ◌&&◌, ◌==◌, nat_lt, slice_index_or, slice_set}
use Rattle.std.specs.Float.Ieee.{Float}
use Rattle.ioc_calc.specs.declared.program.Step.{Step}
use Rattle.ioc_calc.specs.declared.program.Step.TheVariants as steps
use Rattle.ioc_calc.specs.Operations.{zero_float, of_one, of_first, of_next, of_two, power, chosen}
use Rattle.ioc_calc.specs.Stack.{top, below}
use Rattle.ioc_calc.specs.Tree.{Tree, Constant, Argument, Before, One, First, More, Two, Power, Choice, Statement, Value, Store, values_in}

-- ---- the program of a tree

-- the steps of a tree: those of its parts, and then its own
abbrev pub steps_of : Tree → List Step
steps_of (Constant x) = steps.Number ∷ []
steps_of (Argument place) = steps.Argument place ∷ []
steps_of Before = steps.Value ∷ []
steps_of (One operator t) = steps_of t ++ steps.Prefix operator ∷ []
steps_of (First function t) = steps_of t ++ steps.First function ∷ []
steps_of (More function s t) = steps_of s ++ (steps_of t ++ steps.Next function ∷ [])
steps_of (Two operator s t) = steps_of s ++ (steps_of t ++ steps.Infix operator ∷ [])
steps_of (Power t exponent) = steps_of t ++ steps.Power exponent ∷ []
steps_of (Choice condition s t) = steps_of condition ++ (steps_of s ++ (steps_of t ++ steps.Choose ∷ []))

-- the numbers of a tree, in the order of the text
abbrev pub numbers_of : Tree → List Float
numbers_of (Constant x) = x ∷ []
numbers_of (Argument place) = []
numbers_of Before = []
numbers_of (One operator t) = numbers_of t
numbers_of (First function t) = numbers_of t
numbers_of (More function s t) = numbers_of s ++ numbers_of t
numbers_of (Two operator s t) = numbers_of s ++ numbers_of t
numbers_of (Power t exponent) = numbers_of t
numbers_of (Choice condition s t) = numbers_of condition ++ (numbers_of s ++ numbers_of t)

-- the same of statements
abbrev pub all_steps : List Statement → List Step
all_steps [] = []
all_steps (Value t ∷ statements) = steps_of t ++ all_steps statements
all_steps (Store place t ∷ statements) = steps_of t ++ (steps.Store place ∷ all_steps statements)

abbrev pub all_numbers : List Statement → List Float
all_numbers [] = []
all_numbers (Value t ∷ statements) = numbers_of t ++ all_numbers statements
all_numbers (Store place t ∷ statements) = numbers_of t ++ all_numbers statements

-- what a program has
pub record Code : Type 0 where
  pub steps : List Step
  pub numbers : List Float

-- The program is that of the statements, one of which is a value. Behind their numbers there may be
-- others, which no step uses.
pub record IsProgramOf (code : Code) (statements : List Statement) : Type 0 where
  pub steps : code.steps ≡ all_steps statements
  pub unused : List Float
  pub numbers : code.numbers ≡ all_numbers statements ++ unused
  pub one_value : values_in statements ≡ 1

-- ---- a run

-- the arguments, the numbers that haven't been used, and the stack
pub record Machine : Type 0 where
  pub arguments : List Float
  pub numbers : List Float
  pub stack : List Float

-- puts a value on a stack
abbrev pub with_top : Machine → Float → List Float → Machine
with_top m x stack = record { arguments = m.arguments; numbers = m.numbers; stack = x ∷ stack }

-- the machine after one step, with this VAL before the run
abbrev pub stepped : Float → Step → Machine → Machine
stepped before steps.Number m = record { arguments = m.arguments; numbers = below m.numbers; stack = top m.numbers ∷ m.stack }
stepped before (steps.Argument place) m = with_top m (slice_index_or m.arguments place zero_float) m.stack
stepped before steps.Value m = with_top m before m.stack
stepped before (steps.Prefix operator) m = with_top m (of_one operator (top m.stack)) (below m.stack)
stepped before (steps.First function) m = with_top m (of_first function (top m.stack)) (below m.stack)
stepped before (steps.Next function) m = with_top m (of_next function (top (below m.stack)) (top m.stack)) (below (below m.stack))
stepped before (steps.Infix operator) m = with_top m (of_two operator (top (below m.stack)) (top m.stack)) (below (below m.stack))
stepped before (steps.Power exponent) m = with_top m (power (top m.stack) exponent) (below m.stack)
stepped before steps.Choose m =
    with_top m (chosen (top (below (below m.stack))) (top (below m.stack)) (top m.stack)) (below (below (below m.stack)))
stepped before (steps.Store place) m =
    record { arguments = slice_set m.arguments place (top m.stack); numbers = m.numbers; stack = below m.stack }

-- the machine after some steps
abbrev pub ran : Float → List Step → Machine → Machine
ran before [] m = m
ran before (step ∷ rest) m = ran before rest (stepped before step m)

-- ---- programs that can run

-- Whether a step can be made with so many values on the stack and so many numbers unused: it finds
-- the values that it needs, and the stack never has more than 40.
abbrev pub can_step : Step → ℕ → ℕ → Bool
can_step steps.Number depth numbers = nat_lt depth 40 && nat_lt 0 numbers
can_step (steps.Argument place) depth numbers = nat_lt depth 40
can_step steps.Value depth numbers = nat_lt depth 40
can_step (steps.Prefix operator) depth numbers = nat_lt 0 depth
can_step (steps.First function) depth numbers = nat_lt 0 depth
can_step (steps.Next function) depth numbers = nat_lt 1 depth
can_step (steps.Infix operator) depth numbers = nat_lt 1 depth
can_step (steps.Power exponent) depth numbers = nat_lt 0 depth
can_step steps.Choose depth numbers = nat_lt 2 depth
can_step (steps.Store place) depth numbers = nat_lt 0 depth

-- how many values are on the stack after a step
abbrev pub depth_after : Step → ℕ → ℕ
depth_after steps.Number depth = depth + 1
depth_after (steps.Argument place) depth = depth + 1
depth_after steps.Value depth = depth + 1
depth_after (steps.Prefix operator) depth = depth
depth_after (steps.First function) depth = depth
depth_after (steps.Next function) depth = depth - 1
depth_after (steps.Infix operator) depth = depth - 1
depth_after (steps.Power exponent) depth = depth
depth_after steps.Choose depth = depth - 2
depth_after (steps.Store place) depth = depth - 1

-- how many numbers are unused after a step
abbrev pub unused_after : Step → ℕ → ℕ
unused_after steps.Number numbers = numbers - 1
unused_after (steps.Argument place) numbers = numbers
unused_after steps.Value numbers = numbers
unused_after (steps.Prefix operator) numbers = numbers
unused_after (steps.First function) numbers = numbers
unused_after (steps.Next function) numbers = numbers
unused_after (steps.Infix operator) numbers = numbers
unused_after (steps.Power exponent) numbers = numbers
unused_after steps.Choose numbers = numbers
unused_after (steps.Store place) numbers = numbers

-- whether steps can run, and leave one value
abbrev pub can_run : List Step → ℕ → ℕ → Bool
can_run [] depth numbers = depth == 1
can_run (step ∷ rest) depth numbers = can_step step depth numbers && can_run rest (depth_after step depth) (unused_after step numbers)
